-- Worked rows. Each expected value is written out.
--     kinds_first .. names_last   the order of keys
--     tree_wants, tree_first      of a namespace acme over team, with a Role in acme: the keys that want a write, and the first of them
use Rattle.std.specs.Prelude.{codes}
use Rattle.std.proofs.Common.{◌≡◌, ℕ, false, List, [], ◌∷◌, None, Some, refl}
use Rattle.std.specs.Fmt.{digits}
use Rattle.std.specs.declared.cmp.Ordering.TheVariants.{Less, Equal, Greater}
use Rattle.hx_audit.specs.Candidates.{least_from, wanting}
use Rattle.hx_order.specs.KeyOrder.{key_cmp}
use Rattle.hx_model.specs.Answers.{same_object}
use Rattle.hx_model.specs.Limits.{is_copy}
use Rattle.hx_model.specs.Propagation.{id_in}
use Rattle.hx_model.specs.State.{with_version}
use Rattle.hx_model.specs.Texts.{new_namespace}
use Rattle.hx_model.specs.Tree.{hierarchy_id}
use Rattle.hx_model.specs.declared.key.Key.{Key}
use Rattle.hx_model.specs.declared.key.Key.TheVariants as key
use Rattle.hx_object.specs.Sizes.{is_tree_key}
use Rattle.hx_object.specs.declared.kind.Kind.TheVariants.{Role, ConfigMap}
use Rattle.hx_object.specs.declared.object.Need.{Need}
use Rattle.hx_object.specs.declared.object.Object.{Object}
use Rattle.hx_object.specs.declared.object.Payload.TheVariants.{Hierarchy, Plain}
use Rattle.hx_survey.specs.Surveyed.{Surveyed}

-- ---- the order

kinds_first : key_cmp (key.Copy (codes "b") Role (codes "x")) (key.Tree (codes "a")) ≡ Less
kinds_first = refl

then_namespaces : key_cmp (key.Copy (codes "b") Role (codes "a")) (key.Copy (codes "a") ConfigMap (codes "b")) ≡ Greater
then_namespaces = refl

then_numbers : key_cmp (key.Copy (codes "a") Role (codes "z")) (key.Copy (codes "a") ConfigMap (codes "a")) ≡ Less
then_numbers = refl

names_last : key_cmp (key.Child (codes "a") (codes "b")) (key.Child (codes "a") (codes "ab")) ≡ Greater
names_last = refl

one_ties : key_cmp (key.Used (codes "a") (codes "b")) (key.Used (codes "a") (codes "b")) ≡ Equal
one_ties = refl

-- ---- a tree

abbrev acme : List ℕ
acme = codes "acme"

abbrev team : List ℕ
team = codes "team"

abbrev stored : List ℕ → ℕ → Object
stored name version = with_version (new_namespace name) version

abbrev under : Object
under = record { id = hierarchy_id team; labels = []; annotations = []; payload = Hierarchy (Some acme) false [] []; version = 3 }

abbrev no_need : Need
no_need = record { finished = false; token = false; storage = 0; containers = [] }

abbrev role : Object
role = record { id = id_in Role (codes "r") acme; labels = []; annotations = []; payload = Plain (codes "{}") no_need; version = 4 }

abbrev tree : Surveyed
tree = record { objects = stored acme 1 ∷ stored team 2 ∷ under ∷ role ∷ []; excluded = [] }

-- both get the labels of the tree, acme tells of its child, and team gets a copy
abbrev keys : List Key
keys = key.Tree acme ∷ key.Report acme ∷ key.Copy team Role (codes "r") ∷ key.Tree team ∷ []

tree_wants : wanting tree ≡ keys
unfolding is_copy is_tree_key digits same_object
tree_wants = refl

tree_first : least_from None keys ≡ Some (key.Copy team Role (codes "r"))
tree_first = refl
