-- What a survey says of a few objects, computed. Each expected value is worked out by hand.
--     family     a over b over c, where b is excluded, with a ConfigMap in b and one in c
use Rattle.std.specs.Prelude.{codes}
use Rattle.std.proofs.Common.{◌≡◌, ℕ, Bool, true, false, eqb, List, [], ◌∷◌, Option, None, Some, refl}
use Rattle.hx_object.specs.declared.kind.Kind.{Kind}
use Rattle.hx_object.specs.declared.kind.Kind.TheVariants.{Namespace, ConfigMap, Pod}
use Rattle.hx_object.specs.declared.object.Object.{Object}
use Rattle.hx_object.specs.declared.object.Payload.{Payload}
use Rattle.hx_object.specs.declared.object.Payload.TheVariants.{Namespace as NamespaceOf, Hierarchy, Plain}
use Rattle.hx_model.specs.Charges.{charge_of}
use Rattle.hx_model.specs.Limits.{is_copy}
use Rattle.hx_model.specs.State.{ascends}
use Rattle.hx_model.specs.Tree.{hierarchy_id}
use Rattle.hx_model.specs.declared.node.Halt.TheVariants.{IllegalParent}
use Rattle.hx_model.specs.declared.node.Node.{Node}
use Rattle.hx_model.specs.declared.resource.Resource.TheVariants.{CountConfigMaps}
use Rattle.hx_survey.specs.Inside.{place_of, ups_of, halts_of, walk_at, first_listed}
use Rattle.hx_survey.specs.Surveyed.{Surveyed, tree_of, namespaces_lie_alone, used_in}

abbrev a : List ℕ
a = codes "a"

abbrev b : List ℕ
b = codes "b"

abbrev c : List ℕ
c = codes "c"

-- ---- objects

abbrev holds : Kind → List ℕ → List ℕ → Payload → Object
holds kind ns name payload = record { id = record { kind = kind; ns = ns; name = name }; labels = []; annotations = []; payload = payload; version = 1 }

abbrev space : List ℕ → Object
space name = holds Namespace [] name (NamespaceOf false)

abbrev under : List ℕ → List ℕ → Object
under ns parent = record { id = hierarchy_id ns; labels = []; annotations = []; payload = Hierarchy (Some parent) false [] []; version = 1 }

abbrev config : List ℕ → Object
config ns = holds ConfigMap ns (codes "x") (Plain (codes "{}") (record { finished = false; token = false; storage = 0; containers = [] }))

abbrev family : Surveyed
family = record { objects = space a ∷ space b ∷ space c ∷ under b a ∷ under c b ∷ config b ∷ config c ∷ []; excluded = b ∷ [] }

-- ---- what is asked of them

in_order : ascends family.objects ≡ true
in_order = refl

alone : namespaces_lie_alone family.objects ≡ true
alone = refl

-- a namespace that lies in one
in_one : namespaces_lie_alone (holds Namespace a b (NamespaceOf false) ∷ []) ≡ false
in_one = refl

-- ---- the tree

abbrev node : Option (List ℕ) → Bool → Node
node parent excluded = record { parent = parent; terminating = false; excluded = excluded }

tree : tree_of family ≡ (a, node None false) ∷ (b, node (Some a) true) ∷ (c, node (Some b) false) ∷ []
tree = refl

place_of_c : place_of (tree_of family) c ≡ Some 2
place_of_c = refl

ups : ups_of (tree_of family) ≡ None ∷ Some 0 ∷ Some 1 ∷ []
ups = refl

-- the parent of c is excluded
halts : halts_of (tree_of family) ≡ None ∷ None ∷ Some IllegalParent ∷ []
halts = refl

-- three steps lead from c to a, and two don't
far_enough : walk_at (λ i. eqb i 0) 3 (ups_of (tree_of family)) (Some 2) ≡ true
far_enough = refl

not_far_enough : walk_at (λ i. eqb i 0) 2 (ups_of (tree_of family)) (Some 2) ≡ false
not_far_enough = refl

-- ---- objects in namespaces

first_config : first_listed family.objects c ConfigMap ≡ Some (config c)
first_config = refl

no_pod : first_listed family.objects c Pod ≡ None
no_pod = refl

-- both ConfigMaps lie below a, and one below c
used_below_a : used_in family a CountConfigMaps ≡ 2000
unfolding used_in charge_of is_copy
used_below_a = refl

used_below_c : used_in family c CountConfigMaps ≡ 1000
unfolding used_in charge_of is_copy
used_below_c = refl
