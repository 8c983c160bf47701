use Rattle.std.proofs.Common.{◌≡◌, ℕ, List, true, ap, subst}
use Rattle.std.specs.Prelude.{is_some}
use Rattle.hx_model.specs.Forest.{Forest, parent_of}
use Rattle.hx_model.specs.Moves.{is_eligible}
use Rattle.hx_forest.specs.ParentRefs.{forest_of}
use Rattle.hx_forest.proofs.Restless.{all_eligible}
use Rattle.hx_forest.proofs.forest.Forest.may_be_restless.Goals as goal

pub returns : goal.returns
returns c = λ none. subst (λ (f : Forest). (n : List ℕ) → is_some (parent_of f n) ≡ true → is_eligible f n ≡ true) (ap (λ v. v.nodes) c.self.view_is) (all_eligible (forest_of c.self.inside.nodes) (c.has_restless.ensures none))
