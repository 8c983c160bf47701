-- What is surveyed: stored objects, and the tree that they make.
--     Surveyed                   objects in order of their identities, and the names that are excluded from trees
--     tree_of v                  the tree of the namespaces among them
--     lies_alone x               a namespace lies in none, so that its name tells it
--     namespaces_lie_alone       so it is with all
--     used_in v a r              what the objects of the subtree of a are charged for a resource, in thousandths
use Rattle.std.specs.Prelude.{ℕ, Bool, not, ◌||◌, List, [], sum_by, refl}
use Rattle.std.specs.Coded.{Coded, code_by, coded×, coded_list, coded_ℕ}
use Rattle.std.specs.List.{list_all}
use Rattle.std.specs.Str.{bytes_eq}
use Rattle.hx_object.specs.Kinds.{is_namespace}
use Rattle.hx_object.specs.contracts.object.Object as object
use Rattle.hx_object.specs.declared.object.Object.{Object}
use Rattle.hx_model.specs.Forest.{Forest}
use Rattle.hx_model.specs.Quotas.{charge_below}
use Rattle.hx_model.specs.State.{Objects}
use Rattle.hx_model.specs.Tree.{forest_in}
use Rattle.hx_model.specs.declared.resource.Resource.{Resource}

-- objects in order of their identities, and the names that are excluded from trees
pub record Surveyed : Type 0 where
  pub objects : Objects
  pub excluded : List (List ℕ)

-- both, as a pair
abbrev pub surveyed_code : Coded Surveyed
surveyed_code = code_by (List Object × List (List ℕ)) (coded× (coded_list object.the_row.coded) (coded_list (coded_list coded_ℕ)))
    (λ v. (v.objects, v.excluded)) (λ p. record { objects = p.0; excluded = p.1 }) (λ _. refl)

-- the tree of the namespaces among the objects
abbrev pub tree_of : Surveyed → Forest
tree_of v = forest_in v.excluded v.objects

-- a namespace lies in no namespace, so that its name tells it
abbrev pub lies_alone : Object → Bool
lies_alone x = not (is_namespace x.id.kind) || bytes_eq x.id.ns []

-- so it is with all
abbrev pub namespaces_lie_alone : Objects → Bool
namespaces_lie_alone objects = list_all lies_alone objects

-- what all objects of the subtree of a are charged, in thousandths
unfoldable pub used_in : Surveyed → List ℕ → Resource → ℕ
used_in v a r = sum_by (charge_below (tree_of v) a r) v.objects
