-- The parent of a namespace by its owner.
--     parent_told   it is the one with the HierarchyConfiguration that is given
use Rattle.std.proofs.Common.{◌≡◌, ℕ, List, Option, None, Some, option_map, refl, ap, ◌∙◌}
use Rattle.std.specs.Prelude.{option_and_then}
use Rattle.hx_object.specs.declared.object.Object.{Object}
use Rattle.hx_model.specs.First.{or_else}
use Rattle.hx_model.specs.Tree.{named_parent, parent_with, subnamespace_parent}

-- the parent that the annotation names, else the one that the HierarchyConfiguration does
pub parent_told : (new found : Option Object) (owner : Option (Option (List ℕ))) → owner ≡ option_map subnamespace_parent found → option_and_then (λ (parent : Option (List ℕ)). or_else parent (option_and_then named_parent new)) owner ≡ option_and_then (parent_with new) found
parent_told new found owner same = ap (option_and_then (λ (parent : Option (List ℕ)). or_else parent (option_and_then named_parent new))) same ∙ joined found
  where
    joined : (o : Option Object) → option_and_then (λ (parent : Option (List ℕ)). or_else parent (option_and_then named_parent new)) (option_map subnamespace_parent o) ≡ option_and_then (parent_with new) o
    joined None = refl
    joined (Some x) = refl
