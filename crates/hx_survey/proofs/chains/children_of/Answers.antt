use Rattle.std.proofs.Common.{◌≡◌, ℕ, List, IfOk, subst}
use Rattle.hx_survey.proofs.Placed.{children_by}
use Rattle.hx_survey.proofs.chains.children_of.Goals as goal

pub returns : goal.returns
returns c = subst (λ (names : List (List ℕ)). IfOk c.children_in.result (λ children. children.items ≡ names)) (children_by c.args.nodes.now c.args.name.now c.requires) c.children_in.ensures
