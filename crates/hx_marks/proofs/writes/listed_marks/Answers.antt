use Rattle.std.proofs.Common.{◌≡◌, ◌++◌, ℕ, List, [], sym, ap, ◌∙◌, rules}
use Rattle.std.specs.Prelude.{flat_map}
use Rattle.hx_model.specs.State.{State}
use Rattle.hx_model.specs.declared.key.Key.{Key}
use Rattle.hx_marks.specs.Before.{marks_before_among}
use Rattle.hx_marks.specs.Law.{ending_names}
use Rattle.hx_marks.specs.Reads.{state_in}
use Rattle.hx_marks.proofs.Reading.{all_read}
use Rattle.hx_marks.proofs.Searching.{marks_alike}
use Rattle.hx_marks.proofs.writes.listed_marks.Goals as goal

pub returns : goal.returns
returns c =
    let s = c.args.state.now.state in
    let ws = c.args.writes.now in
    let endings : List (List ℕ) = c.in_ok-endings.endings in
    let none : c.new-keys.result.items ≡ [] = search rules in
    c.in_ok-marks_of_all.ensures
    ∙ ap (λ (xs : List Key). xs ++ flat_map (marks_before_among (state_in c.of-current.result) endings) ws) none
    ∙ ap (λ (t : State). flat_map (marks_before_among t endings) ws) c.of-current.ensures
    ∙ marks_alike s endings (ending_names ws) ws c.in_ok-endings.ensures
    ∙ sym (all_read s c.law_of_validity.ensures (ending_names ws) ws c.requires.each)
