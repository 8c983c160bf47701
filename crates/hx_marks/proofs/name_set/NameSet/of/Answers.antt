use Rattle.std.proofs.Common.{◌≡◌, ◌++◌, ◌∙◌, ℕ, List, [], ap, rules}
use Rattle.hx_model.specs.Forest.{is_in}
use Rattle.hx_marks.proofs.name_set.NameSet.of.Goals as goal

pub returns : goal.returns
returns c = λ q.
    let none : c.new-copies.result.items ≡ [] = search rules in
    c.new.ensures q ∙ ap (is_in q) (c.in_ok-push_names.ensures ∙ ap (λ (copies : List (List ℕ)). copies ++ c.args.names.now) none)
