use Rattle.std.proofs.Common.{rules, ◌≡◌, ◌<◌, Some, option_copied, sym, ap, ◌∙◌}
use Rattle.hx_forest.specs.ParentRefs.{name_in}
use Rattle.hx_forest.proofs.Passing.{one_fewer}
use Rattle.hx_forest.proofs.Indices.{names_index}
use Rattle.hx_forest.proofs.walks.AncestorsIterator.next.Goals as goal

pub returns-clause-steps : goal.returns-clause-steps
returns-clause-steps c =
    let nodes = c.self.inside.nodes.now in
    let left = c.self.inside.left in
    let member = c.in_ok-member.member.now in
    let name : name_in nodes c.self.inside.at ≡ Some member = sym c.name_in.ensures.name ∙ ap option_copied c.in_ok-member.was in
    let some_left : 0 < left = search rules in
    sym c.self.view_is ∙ names_index left nodes c.self.inside.at c.above-self-inside.result member some_left c.name_in.ensures.unique name c.above-self-inside.ensures

pub returns-clause-goes : goal.returns-clause-goes
returns-clause-goes c = record { on = λ _. (tt, tt, one_fewer _ _ _ (returns-clause-steps c)); keeps = tt; rests = λ _. tt }
