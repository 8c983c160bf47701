-- Where an excess may begin, and which keys are known, computed. Each expected value is worked out by hand.
--     acme, team, ops   namespaces
--     tree objects      acme over team, and ops beside them, with some objects
use Rattle.std.specs.Prelude.{codes}
use Rattle.std.proofs.Common.{◌≡◌, ℕ, Bool, true, false, List, [], ◌∷◌, Option, None, Some, refl}
use Rattle.hx_object.specs.declared.kind.Kind.{Kind}
use Rattle.hx_object.specs.declared.kind.Kind.TheVariants.{HierarchicalResourceQuota, ConfigMap}
use Rattle.hx_object.specs.declared.object.Limit.{Limit}
use Rattle.hx_object.specs.declared.object.Object.{Object}
use Rattle.hx_object.specs.declared.object.Payload.{Payload}
use Rattle.hx_object.specs.declared.object.Payload.TheVariants.{Namespace as NamespaceOf, Hierarchy, Quota, Plain}
use Rattle.hx_model.specs.Keys.{same_key}
use Rattle.hx_model.specs.Machine.{Took, Idle}
use Rattle.hx_model.specs.Windows.{opened}
use Rattle.hx_model.specs.State.{State, Objects, namespace_id, state_after}
use Rattle.hx_model.specs.Tree.{forest_of, hierarchy_id}
use Rattle.hx_model.specs.declared.key.Key.TheVariants as key
use Rattle.hx_model.specs.declared.key.Write.{Write}
use Rattle.hx_model.specs.declared.key.Write.TheVariants.{Put, Cut}
use Rattle.hx_model.specs.Excess.{limits_more, gets_parent, gives_parent, gives_home, may_begin_excess, bears_on_limits}
use Rattle.hx_model.specs.Known.{known_in, known_behind, none_known}

abbrev acme : List ℕ
acme = codes "acme"

abbrev team : List ℕ
team = codes "team"

abbrev ops : List ℕ
ops = codes "ops"

-- ---- objects

abbrev holds : Kind → List ℕ → List ℕ → Payload → Object
holds kind ns name payload = record { id = record { kind = kind; ns = ns; name = name }; labels = []; annotations = []; payload = payload; version = 1 }

abbrev namespace : List ℕ → Object
namespace name = record { id = namespace_id name; labels = []; annotations = []; payload = NamespaceOf false; version = 1 }

-- the HierarchyConfiguration of a namespace
abbrev under : List ℕ → Option (List ℕ) → Object
under ns parent = record { id = hierarchy_id ns; labels = []; annotations = []; payload = Hierarchy parent false [] []; version = 1 }

abbrev limit : List ℕ → ℕ → Limit
limit resource amount = record { resource = resource; written = []; amount = amount }

abbrev pods : List ℕ
pods = codes "pods"

abbrev configs : List ℕ
configs = codes "count/configmaps"

abbrev quota : List Limit → Object
quota hard = holds HierarchicalResourceQuota team (codes "q") (Quota hard [])

abbrev config : List ℕ → Object
config ns = holds ConfigMap ns (codes "a") (Plain (codes "{}") (record { finished = false; token = false; storage = 0; containers = [] }))

-- ---- a state

-- acme over team, and ops beside them, with these objects
abbrev tree : Objects → State
tree objects = record { objects = namespace acme ∷ namespace ops ∷ namespace team ∷ under team (Some acme) ∷ objects; last = 1; config = record { excluded = []; allow_skip = true }; window = opened 0 }

-- an excess may begin below team at these writes, or below acme
abbrev begins : Objects → List Write → Bool
begins objects ws = may_begin_excess (tree objects) (state_after (tree objects) ws) team

abbrev begins_above : Objects → List Write → Bool
begins_above objects ws = may_begin_excess (tree objects) (state_after (tree objects) ws) acme

-- ---- quotas

-- a quota comes
new_quota : begins [] (Put (quota (limit pods 2000 ∷ [])) ∷ []) ≡ true
new_quota = refl

-- it limits nothing else than what lies below its namespace
new_quota_below : begins_above [] (Put (quota (limit pods 2000 ∷ [])) ∷ []) ≡ false
new_quota_below = refl

-- one that limits nothing
empty_quota : begins [] (Put (quota []) ∷ []) ≡ false
empty_quota = refl

-- its limit is lowered by a thousandth
lowered : begins (quota (limit pods 2000 ∷ []) ∷ []) (Put (quota (limit pods 1999 ∷ [])) ∷ []) ≡ true
lowered = refl

-- it is raised
raised : begins (quota (limit pods 2000 ∷ []) ∷ []) (Put (quota (limit pods 2001 ∷ [])) ∷ []) ≡ false
raised = refl

-- a limit comes beside it
one_more : begins (quota (limit pods 2000 ∷ []) ∷ []) (Put (quota (limit configs 1000 ∷ limit pods 2000 ∷ [])) ∷ []) ≡ true
one_more = refl

-- a limit goes
one_less : begins (quota (limit configs 1000 ∷ limit pods 2000 ∷ []) ∷ []) (Put (quota (limit pods 2000 ∷ [])) ∷ []) ≡ false
one_less = refl

-- the quota goes
quota_gone : begins (quota (limit pods 2000 ∷ []) ∷ []) (Cut (quota []).id ∷ []) ≡ false
quota_gone = refl

-- ---- objects

-- an object comes
written : begins (quota (limit configs 1000 ∷ []) ∷ []) (Put (config team) ∷ []) ≡ false
written = refl

-- and the same by its kind
written_kind : bears_on_limits ConfigMap ≡ false
written_kind = refl

-- ---- namespaces

-- ops comes below acme, and not below team
moved : begins_above [] (Put (under ops (Some acme)) ∷ []) ≡ true
moved = refl

moved_beside : begins [] (Put (under ops (Some acme)) ∷ []) ≡ false
moved_beside = refl

-- ops comes below team, and so below acme
moved_deeper : begins [] (Put (under ops (Some team)) ∷ []) ≡ true
moved_deeper = refl

moved_below : begins_above [] (Put (under ops (Some team)) ∷ []) ≡ true
moved_below = refl

-- team parts from acme
parted : begins_above [] (Put (under team None) ∷ []) ≡ false
parted = refl

-- its HierarchyConfiguration is written anew
stays_below : begins_above [] (Put (under team (Some acme)) ∷ []) ≡ false
stays_below = refl

-- a namespace comes that nothing waits for
alone : begins_above [] (Put (namespace (codes "web")) ∷ []) ≡ false
alone = refl

-- acme comes, which team names as its parent
abbrev without_acme : Objects → State
without_acme objects = record (tree []) { objects = namespace ops ∷ namespace team ∷ under team (Some acme) ∷ objects }

awaited : gives_parent (forest_of (without_acme [])) (forest_of (tree [])) acme ≡ true
awaited = refl

awaited_alone : limits_more (without_acme []) (tree []) acme ≡ false
awaited_alone = refl

awaited_still : gets_parent (forest_of (without_acme [])) (forest_of (tree [])) acme ≡ false
awaited_still = refl

-- acme comes, in which an object lies already: no state that is valid has one
lain_in : gives_home (without_acme (config acme ∷ [])) (tree []) acme ≡ true
lain_in = refl

not_lain_in : gives_home (without_acme []) (tree []) acme ≡ false
not_lain_in = refl

-- acme goes
gone : may_begin_excess (tree []) (without_acme []) acme ≡ false
gone = refl

-- ---- keys

-- a key that the line of a take gives is known from then on
given : known_behind none_known (tree []) (Took 7 (key.Tree (codes "web")) true) (key.Tree (codes "web")) ≡ true
unfolding same_key
given = refl

-- one that the worker takes by itself isn't
not_given : known_behind none_known (tree []) (Took 7 (key.Tree (codes "web")) false) (key.Tree (codes "web")) ≡ false
not_given = refl

-- another key isn't
another : known_behind none_known (tree []) (Took 7 (key.Tree (codes "web")) true) (key.Purge (codes "web")) ≡ false
unfolding same_key
another = refl

-- nor one of another name
another_name : known_behind none_known (tree []) (Took 7 (key.Tree (codes "web")) true) (key.Tree (codes "wel")) ≡ false
unfolding same_key
another_name = refl

-- a key of a state is known in it
of_state : known_in none_known (tree []) (key.Tree team) ≡ true
of_state = refl

-- a key of a state that the run had, which is none of the state now
of_earlier : known_in (known_behind none_known (tree []) (Idle 7)) (without_acme []) (key.Tree acme) ≡ true
of_earlier = refl

not_of_state : known_in none_known (without_acme []) (key.Tree acme) ≡ false
not_of_state = refl
