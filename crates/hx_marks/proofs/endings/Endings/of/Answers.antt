use Rattle.std.proofs.Common.{◌≡◌, ◌++◌, ◌∙◌, ℕ, List, [], ap, rules}
use Rattle.hx_model.specs.Forest.{is_in}
use Rattle.hx_marks.specs.Law.{ending_names}
use Rattle.hx_marks.proofs.endings.Endings.of.Goals as goal

pub returns : goal.returns
returns c = λ q.
    let none : c.new-endings.result.items ≡ [] = search rules in
    c.new-names.ensures q ∙ ap (is_in q) (c.in_ok-push_endings.ensures ∙ ap (λ (names : List (List ℕ)). names ++ ending_names c.args.writes.now) none)
