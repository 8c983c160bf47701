-- The order of keys and the bound, computed. Each expected value is worked out by hand.
--     empty          a state without objects
--     pair           two namespaces and a Role
--     busy           a namespace with three anchors and a quota, one that is there, and one on its way out that holds two objects
use Rattle.std.specs.Prelude.{codes}
use Rattle.std.proofs.Common.{◌≡◌, ℕ, true, false, List, [], ◌∷◌, length, None, Some, refl}
use Rattle.hx_object.specs.declared.kind.Kind.{Kind}
use Rattle.hx_object.specs.declared.kind.Kind.TheVariants.{HierarchicalResourceQuota, Pod, Role, SubnamespaceAnchor}
use Rattle.hx_object.specs.declared.object.Object.{Object}
use Rattle.hx_object.specs.declared.object.Payload.{Payload}
use Rattle.hx_object.specs.declared.object.Payload.TheVariants.{Anchor, Hierarchy, Namespace as NamespaceOf, Plain, Quota}
use Rattle.hx_model.specs.State.{State, Objects, namespace_id, with_version}
use Rattle.hx_model.specs.Texts.{new_namespace}
use Rattle.hx_model.specs.Tree.{forest_of, hierarchy_id}
use Rattle.hx_model.specs.Windows.{opened}
use Rattle.hx_model.specs.declared.key.Key.TheVariants as key
use Rattle.hx_bound.specs.Bound.{key_count, left_of, most_left, names_asked, pairs_of, turn_bound}
use Rattle.hx_order.specs.Ranks.{precedes}

abbrev acme : List ℕ
acme = codes "acme"

abbrev ops : List ℕ
ops = codes "ops"

abbrev team : List ℕ
team = codes "team"

abbrev holds : Kind → List ℕ → List ℕ → Payload → Object
holds kind ns name payload = record { id = record { kind = kind; ns = ns; name = name }; labels = []; annotations = []; payload = payload; version = 1 }

abbrev plain : Payload
plain = Plain (codes "{}") (record { finished = false; token = false; storage = 0; containers = [] })

abbrev stored : List ℕ → Object
stored name = with_version (new_namespace name) 1

abbrev leaving : List ℕ → Object
leaving name = record { id = namespace_id name; labels = []; annotations = []; payload = NamespaceOf true; version = 1 }

abbrev under : List ℕ → List ℕ → Object
under ns parent = record { id = hierarchy_id ns; labels = []; annotations = []; payload = Hierarchy (Some parent) false [] []; version = 1 }

abbrev anchor : List ℕ → Object
anchor name = holds SubnamespaceAnchor acme name (Anchor None)

abbrev role : List ℕ → Object
role ns = holds Role ns (codes "r") plain

abbrev state : Objects → State
state objects = record { objects = objects; last = 1; config = record { excluded = []; allow_skip = true }; window = opened 0 }

-- ---- the bound

abbrev empty : State
empty = state []

-- one turn, which finds nothing
nothing_to_do : turn_bound empty 0 ≡ 1
nothing_to_do = refl

abbrev pair : State
pair = state (stored acme ∷ stored team ∷ under team acme ∷ role acme ∷ [])

-- of each name a copy, a removal, tree labels and a report
keys_of_pair : key_count pair ≡ 8
keys_of_pair = refl

-- nothing goes, and no anchor asks
left_of_pair : left_of pair ≡ 0
left_of_pair = refl

-- 9 times 11
bound_of_pair : turn_bound pair 2 ≡ 99
bound_of_pair = refl

abbrev busy : State
busy = state (
    stored acme ∷ stored ops ∷ leaving team
    ∷ anchor (codes "new") ∷ anchor ops ∷ anchor team
    ∷ holds HierarchicalResourceQuota acme (codes "q") (Quota [] [])
    ∷ role acme ∷ role team
    ∷ holds Pod team (codes "p") plain ∷ [])

-- acme, ops and team, and one that an anchor asks for
names_of_busy : length (names_asked busy) ≡ 4
names_of_busy = refl

-- two Roles of one name
pairs_of_busy : length (pairs_of busy) ≡ 1
pairs_of_busy = refl

-- 4 copies, 12 keys of names, 6 of anchors and one of the quota
keys_of_busy : key_count busy ≡ 23
keys_of_busy = refl

-- team with its Role and its Pod, and the anchors of team and of the one that isn't there
left_of_busy : left_of busy ≡ 5
left_of_busy = refl

-- the anchor of ops counts, too
most_left_of_busy : most_left busy ≡ 6
most_left_of_busy = refl

-- 30 times 34
bound_of_busy : turn_bound busy 10 ≡ 1020
bound_of_busy = refl

-- ---- the order

-- removals come before subnamespaces
removals_first : precedes (forest_of pair) (key.Purge team) (key.Child acme team) ≡ true
removals_first = refl

-- copies come before reports
copies_before_reports : precedes (forest_of pair) (key.Copy team Role (codes "r")) (key.Report acme) ≡ true
copies_before_reports = refl

-- those of a parent come before those of its children
parents_first : precedes (forest_of pair) (key.Copy acme Role (codes "z")) (key.Copy team Role (codes "r")) ≡ true
parents_first = refl

-- tree labels are all on one level
labels_beside : precedes (forest_of pair) (key.Tree acme) (key.Tree team) ≡ false
labels_beside = refl
