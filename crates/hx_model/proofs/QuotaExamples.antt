-- What quotas refuse and what they tell, computed. Each expected value is worked out by hand.
--     acme        the namespace above team and ops
--     quotas      a state of these three, with some quotas and other objects
--     ring        acme over team, and team over acme, with some objects
--     told        the write by which the quota q in team tells what is used
use Rattle.std.specs.Prelude.{codes}
use Rattle.std.proofs.Common.{◌≡◌, ℕ, Bool, true, false, List, [], ◌∷◌, Option, None, Some, refl}
use Rattle.std.specs.Fmt.{digits}
use Rattle.serde_json.proofs.OnLiterals.{serde_json_on_literals}
use Rattle.hx_object.specs.WellKnown.{inherited_from}
use Rattle.hx_object.specs.declared.kind.Kind.{Kind}
use Rattle.hx_object.specs.declared.kind.Kind.TheVariants.{HierarchicalResourceQuota, ConfigMap, Pod, PersistentVolumeClaim}
use Rattle.hx_object.specs.declared.object.Container.{Container}
use Rattle.hx_object.specs.declared.object.Limit.{Limit}
use Rattle.hx_object.specs.declared.object.Object.{Object}
use Rattle.hx_object.specs.declared.object.Payload.{Payload}
use Rattle.hx_object.specs.declared.object.Payload.TheVariants.{Namespace as NamespaceOf, Hierarchy, Quota, Plain}
use Rattle.hx_object.specs.declared.object.Usage.{Usage}
use Rattle.hx_object.specs.Quantities.{quantity_text}
use Rattle.hx_model.specs.Answers.{refusal_of, quota_refusal, same_object}
use Rattle.hx_model.specs.Charges.{resource_named, charge_of, is_unstated}
use Rattle.hx_model.specs.Limits.{is_copy}
use Rattle.hx_model.specs.Quotas.{used, same_need}
use Rattle.hx_model.specs.Replies.{quota_message, message_of, status_text}
use Rattle.hx_model.specs.Windows.{opened}
use Rattle.hx_model.specs.State.{State, Objects, ascends, with_version}
use Rattle.hx_model.specs.Texts.{new_namespace}
use Rattle.hx_model.specs.Tree.{hierarchy_id}
use Rattle.hx_model.specs.Wanted.{wanted_write}
use Rattle.hx_model.specs.declared.ask.Ask.TheVariants.{Create, Replace}
use Rattle.hx_model.specs.declared.key.Key.TheVariants as key
use Rattle.hx_model.specs.declared.key.Write.{Write}
use Rattle.hx_model.specs.declared.key.Write.TheVariants.{Put}
use Rattle.hx_model.specs.declared.refusal.Refusal.{Refusal}
use Rattle.hx_model.specs.declared.refusal.Refusal.TheVariants.{Broken, OverQuota}
use Rattle.hx_model.specs.declared.resource.Resource.TheVariants.{CountConfigMaps}
use Rattle.hx_model.specs.declared.rule.Rule.TheVariants.{O1, Q2, Q3}

abbrev acme : List ℕ
acme = codes "acme"

abbrev team : List ℕ
team = codes "team"

abbrev ops : List ℕ
ops = codes "ops"

-- ---- objects

abbrev holds : Kind → List ℕ → List ℕ → Payload → Object
holds kind ns name payload = record { id = record { kind = kind; ns = ns; name = name }; labels = []; annotations = []; payload = payload; version = 1 }

abbrev limit : List ℕ → ℕ → Limit
limit resource amount = record { resource = resource; written = []; amount = amount }

abbrev quota : List ℕ → List ℕ → List Limit → Object
quota ns name hard = holds HierarchicalResourceQuota ns name (Quota hard [])

abbrev container : Option ℕ → Container
container cpu = record { init = false; asks = cpu ∷ None ∷ None ∷ None ∷ [] }

-- a Pod of one container, by whether it has finished and what it asks of requests.cpu
abbrev pod : List ℕ → Bool → Option ℕ → Object
pod ns finished cpu = holds Pod ns (codes "p") (Plain (codes "{}") (record { finished = finished; token = false; storage = 0; containers = container cpu ∷ [] }))

abbrev config : List ℕ → List ℕ → Object
config ns name = holds ConfigMap ns name (Plain (codes "{}") (record { finished = false; token = false; storage = 0; containers = [] }))

abbrev claim : List ℕ → ℕ → Object
claim ns storage = holds PersistentVolumeClaim ns (codes "c") (Plain (codes "{}") (record { finished = false; token = false; storage = storage; containers = [] }))

-- the same as a copy
abbrev copy : Object → Object
copy x = record x { labels = (inherited_from, acme) ∷ [] }

abbrev under : List ℕ → Object
under ns = record { id = hierarchy_id ns; labels = []; annotations = []; payload = Hierarchy (Some acme) false [] []; version = 1 }

abbrev stored : List ℕ → Object
stored name = with_version (new_namespace name) 1

-- ---- a state

-- acme over ops and team, with these objects
abbrev quotas : Objects → State
quotas objects = record { objects = stored acme ∷ stored ops ∷ stored team ∷ under ops ∷ under team ∷ objects; last = 1; config = record { excluded = []; allow_skip = true }; window = opened 0 }

abbrev configs : List ℕ
configs = codes "count/configmaps"

abbrev cpu : List ℕ
cpu = codes "requests.cpu"

abbrev refused : State → Object → Option Refusal
refused s x = quota_refusal s (Create x false)

abbrev replaced : State → Object → Option Refusal
replaced s x = quota_refusal s (Replace x None false)

-- ---- one limit

-- the objects are in order
in_order : ascends (quotas (quota acme (codes "q") (limit configs 2000 ∷ []) ∷ quota team (codes "q") (limit configs 2000 ∷ []) ∷ config acme (codes "a") ∷ config ops (codes "a") ∷ config team (codes "a") ∷ pod team false (Some 250) ∷ claim team 5 ∷ [])).objects ≡ true
in_order = refl

-- one is there, and one more comes: 2 in all
one_below : refused (quotas (quota team (codes "q") (limit configs 2001 ∷ []) ∷ config team (codes "a") ∷ [])) (config team (codes "b")) ≡ None
unfolding resource_named charge_of is_copy used
one_below = refl

-- as many as the limit
at_limit : refused (quotas (quota team (codes "q") (limit configs 2000 ∷ []) ∷ config team (codes "a") ∷ [])) (config team (codes "b")) ≡ None
unfolding resource_named charge_of is_copy used
at_limit = refl

-- one thousandth over it
one_above : refused (quotas (quota team (codes "q") (limit configs 1999 ∷ []) ∷ config team (codes "a") ∷ [])) (config team (codes "b")) ≡ Some (OverQuota team (codes "q") configs 1000 1000 1999)
unfolding resource_named charge_of is_copy used
one_above = refl

-- the limit was passed before
far_above : refused (quotas (quota team (codes "q") (limit configs 500 ∷ []) ∷ config team (codes "a") ∷ [])) (config team (codes "b")) ≡ Some (OverQuota team (codes "q") configs 1000 1000 500)
unfolding resource_named charge_of is_copy used
far_above = refl

-- another kind
other_kind : refused (quotas (quota team (codes "q") (limit configs 0 ∷ []) ∷ config team (codes "a") ∷ [])) (claim team 5) ≡ None
unfolding resource_named charge_of is_copy used
other_kind = refl

-- a name that stands for no resource
no_resource : refused (quotas (quota team (codes "q") (limit (codes "gone") 0 ∷ []) ∷ config team (codes "a") ∷ [])) (config team (codes "b")) ≡ None
unfolding resource_named charge_of is_copy used
no_resource = refl

-- no quota at all
no_quota : refused (quotas (config team (codes "a") ∷ [])) (config team (codes "b")) ≡ None
unfolding resource_named charge_of is_copy used
no_quota = refl

-- ---- more than one

-- the second quota of a namespace
second_quota : refused (quotas (quota team (codes "a") (limit configs 5000 ∷ []) ∷ quota team (codes "b") (limit configs 1000 ∷ []) ∷ config team (codes "a") ∷ [])) (config team (codes "b")) ≡ Some (OverQuota team (codes "b") configs 1000 1000 1000)
unfolding resource_named charge_of is_copy used
second_quota = refl

-- of two that are passed the one of the smaller name
first_quota : refused (quotas (quota team (codes "a") (limit configs 1500 ∷ []) ∷ quota team (codes "b") (limit configs 1000 ∷ []) ∷ config team (codes "a") ∷ [])) (config team (codes "b")) ≡ Some (OverQuota team (codes "a") configs 1000 1000 1500)
unfolding resource_named charge_of is_copy used
first_quota = refl

-- two names of one resource: the second is passed
second_name : refused (quotas (quota team (codes "q") (limit (codes "configmaps") 5000 ∷ limit configs 1000 ∷ []) ∷ config team (codes "a") ∷ [])) (config team (codes "b")) ≡ Some (OverQuota team (codes "q") configs 1000 1000 1000)
unfolding resource_named charge_of is_copy used
second_name = refl

-- both are
first_name : refused (quotas (quota team (codes "q") (limit (codes "configmaps") 1000 ∷ limit configs 1000 ∷ []) ∷ config team (codes "a") ∷ [])) (config team (codes "b")) ≡ Some (OverQuota team (codes "q") (codes "configmaps") 1000 1000 1000)
unfolding resource_named charge_of is_copy used
first_name = refl

-- the quota above alone is passed: what lies in ops counts there
upper_alone : refused (quotas (quota acme (codes "q") (limit configs 2000 ∷ []) ∷ quota team (codes "q") (limit configs 2000 ∷ []) ∷ config ops (codes "a") ∷ config team (codes "a") ∷ [])) (config team (codes "b")) ≡ Some (OverQuota acme (codes "q") configs 2000 1000 2000)
unfolding resource_named charge_of is_copy used
upper_alone = refl

-- of two the nearest
nearest : refused (quotas (quota acme (codes "q") (limit configs 1000 ∷ []) ∷ quota team (codes "q") (limit configs 1000 ∷ []) ∷ config team (codes "a") ∷ [])) (config team (codes "b")) ≡ Some (OverQuota team (codes "q") configs 1000 1000 1000)
unfolding resource_named charge_of is_copy used
nearest = refl

-- quotas below don't hold
below : refused (quotas (quota ops (codes "q") (limit configs 0 ∷ []) ∷ quota team (codes "q") (limit configs 0 ∷ []) ∷ [])) (config acme (codes "a")) ≡ None
unfolding resource_named charge_of is_copy used
below = refl

-- ---- PUT

-- a Pod that asks for less, over the limit still
lowered : replaced (quotas (quota team (codes "q") (limit cpu 100 ∷ []) ∷ pod team false (Some 500) ∷ [])) (pod team false (Some 250)) ≡ None
unfolding resource_named charge_of is_copy used is_unstated same_need
lowered = refl

-- for more: 250 more than the 250 that are used
raised : replaced (quotas (quota team (codes "q") (limit cpu 400 ∷ []) ∷ pod team false (Some 250) ∷ [])) (pod team false (Some 500)) ≡ Some (OverQuota team (codes "q") cpu 250 250 400)
unfolding resource_named charge_of is_copy used is_unstated same_need
raised = refl

-- as much as the limit
raised_to_limit : replaced (quotas (quota team (codes "q") (limit cpu 500 ∷ []) ∷ pod team false (Some 250) ∷ [])) (pod team false (Some 500)) ≡ None
unfolding resource_named charge_of is_copy used is_unstated same_need
raised_to_limit = refl

-- one that finishes
finishes : replaced (quotas (quota team (codes "q") (limit cpu 100 ∷ []) ∷ pod team false (Some 500) ∷ [])) (pod team true (Some 900)) ≡ None
unfolding resource_named charge_of is_copy used
finishes = refl

-- contents alone, over the limit
contents : replaced (quotas (quota team (codes "q") (limit configs 0 ∷ []) ∷ config team (codes "a") ∷ [])) (record (config team (codes "a")) { payload = Plain (codes "{\"data\":{}}") (record { finished = false; token = false; storage = 0; containers = [] }) }) ≡ None
unfolding resource_named charge_of is_copy used
contents = refl

-- ---- copies

-- a copy is charged nothing
copy_comes : refused (quotas (quota team (codes "q") (limit configs 0 ∷ []) ∷ [])) (copy (config team (codes "b"))) ≡ None
unfolding resource_named charge_of is_copy used
copy_comes = refl

-- and isn't counted
copy_is_there : used (quotas (copy (config team (codes "a")) ∷ config ops (codes "a") ∷ [])) acme CountConfigMaps ≡ 1000
unfolding resource_named charge_of is_copy used
copy_is_there = refl

-- it becomes a source
copy_is_taken_over : replaced (quotas (quota team (codes "q") (limit configs 0 ∷ []) ∷ copy (config team (codes "a")) ∷ [])) (config team (codes "a")) ≡ Some (OverQuota team (codes "q") configs 0 1000 0)
unfolding resource_named charge_of is_copy used
copy_is_taken_over = refl

-- ---- what isn't stated

-- requests.cpu is limited
unstated : refused (quotas (quota acme (codes "q") (limit cpu 9000 ∷ []) ∷ [])) (pod team false None) ≡ Some (Broken Q2)
unfolding resource_named charge_of is_copy used is_unstated same_need
unstated = refl

-- also where a limit would be passed
unstated_first : refused (quotas (quota team (codes "q") (limit (codes "pods") 0 ∷ []) ∷ quota team (codes "r") (limit cpu 9000 ∷ []) ∷ [])) (pod team false None) ≡ Some (Broken Q2)
unfolding resource_named charge_of is_copy used is_unstated same_need
unstated_first = refl

-- it has finished
finished : refused (quotas (quota acme (codes "q") (limit cpu 9000 ∷ []) ∷ [])) (pod team true None) ≡ None
unfolding resource_named charge_of is_copy used is_unstated same_need
finished = refl

-- another resource is limited
states_enough : refused (quotas (quota acme (codes "q") (limit (codes "pods") 9000 ∷ []) ∷ [])) (pod team false None) ≡ None
unfolding resource_named charge_of is_copy used is_unstated same_need
states_enough = refl

-- one that is there keeps what it asks for
keeps : replaced (quotas (quota acme (codes "q") (limit cpu 9000 ∷ []) ∷ pod team false None ∷ [])) (record (pod team false None) { annotations = (codes "a", codes "b") ∷ [] }) ≡ None
unfolding resource_named charge_of is_copy used is_unstated same_need
keeps = refl

-- or states it no longer
states_no_longer : replaced (quotas (quota acme (codes "q") (limit cpu 9000 ∷ []) ∷ pod team false (Some 5) ∷ [])) (pod team false None) ≡ Some (Broken Q2)
unfolding resource_named charge_of is_copy used is_unstated same_need
states_no_longer = refl

-- ---- quotas

-- a limit of what stands for no resource
unknown_resource : refusal_of (quotas ([])) (Create (quota team (codes "q") (limit configs 0 ∷ limit (codes "gone") 0 ∷ [])) false) ≡ Some (Broken Q3)
unfolding resource_named is_copy
unknown_resource = refl

-- skipping admission doesn't help
skip_does_not_help : refusal_of (quotas ([])) (Create (quota team (codes "q") (limit (codes "gone") 0 ∷ [])) true) ≡ Some (Broken Q3)
unfolding resource_named is_copy
skip_does_not_help = refl

-- nor does it elsewhere
skip_passes_over_no_limit : refusal_of (quotas (quota team (codes "q") (limit configs 0 ∷ []) ∷ [])) (Create (config team (codes "b")) true) ≡ Some (OverQuota team (codes "q") configs 0 1000 0)
unfolding resource_named charge_of is_copy used
skip_passes_over_no_limit = refl

-- a PUT
put_unknown_resource : refusal_of (quotas (quota team (codes "q") (limit configs 0 ∷ []) ∷ [])) (Replace (quota team (codes "q") (limit (codes "gone") 0 ∷ [])) None false) ≡ Some (Broken Q3)
unfolding resource_named is_copy
put_unknown_resource = refl

-- ---- order

-- other rules come first
copies_first : refusal_of (quotas (quota team (codes "q") (limit configs 0 ∷ []) ∷ [])) (Create (copy (config team (codes "b"))) false) ≡ Some (Broken O1)
unfolding resource_named charge_of is_copy used
copies_first = refl

-- limits of the store come last
before_versions : refusal_of (record (quotas (quota team (codes "q") (limit configs 0 ∷ []) ∷ [])) { last = 9223372036854775807 }) (Create (config team (codes "b")) false) ≡ Some (OverQuota team (codes "q") configs 0 1000 0)
unfolding resource_named charge_of is_copy used
before_versions = refl

-- ---- what quotas tell

abbrev pods : List ℕ
pods = codes "pods"

abbrev usage : List ℕ → ℕ → ℕ → Usage
usage resource hard sum = record { resource = resource; hard = hard; used = sum }

-- the quota q in team
abbrev quota_in_team : List Limit → List Usage → Object
quota_in_team hard status = holds HierarchicalResourceQuota team (codes "q") (Quota hard status)

-- what its key wants
abbrev told_in : State → Option Write
told_in s = wanted_write s (key.Used team (codes "q"))

-- that it tells this
abbrev told : List Limit → List Usage → Option Write
told hard status = Some (Put (record (quota_in_team hard status) { version = 0 }))

-- acme's parent is team, and team's is acme
abbrev ring : Objects → State
ring objects = record (quotas []) { objects = stored acme ∷ stored team ∷ record (under acme) { payload = Hierarchy (Some team) false [] [] } ∷ under team ∷ objects }

abbrev nine_pods : List Limit
nine_pods = limit pods 9000 ∷ []

-- each namespace of a ring lies below the other
both_in_ring : told_in (ring (quota_in_team nine_pods [] ∷ pod acme false (Some 250) ∷ pod team false (Some 250) ∷ [])) ≡ told nine_pods (usage pods 9000 2000 ∷ [])
unfolding resource_named charge_of is_copy used same_object
both_in_ring = refl

-- acme has no parent
team_alone : told_in (quotas (quota_in_team nine_pods [] ∷ pod acme false (Some 250) ∷ pod team false (Some 250) ∷ [])) ≡ told nine_pods (usage pods 9000 1000 ∷ [])
unfolding resource_named charge_of is_copy used same_object
team_alone = refl

-- in the place of what was told before
told_anew : told_in (quotas (quota_in_team nine_pods (usage pods 9000 2000 ∷ []) ∷ pod acme false (Some 250) ∷ pod team false (Some 250) ∷ [])) ≡ told nine_pods (usage pods 9000 1000 ∷ [])
unfolding resource_named charge_of is_copy used same_object
told_anew = refl

-- it tells this already
told_already : told_in (quotas (quota_in_team nine_pods (usage pods 9000 1000 ∷ []) ∷ pod acme false (Some 250) ∷ pod team false (Some 250) ∷ [])) ≡ None
unfolding resource_named charge_of is_copy used same_object
told_already = refl

-- a quota that limits nothing has nothing to tell
nothing_limited : told_in (quotas (quota_in_team [] [] ∷ pod team false (Some 250) ∷ [])) ≡ None
unfolding resource_named charge_of is_copy used same_object
nothing_limited = refl

-- and there may be none
no_quota_there : told_in (quotas (pod team false (Some 250) ∷ [])) ≡ None
unfolding resource_named charge_of is_copy used same_object
no_quota_there = refl

-- team is on its way out
team_leaves : told_in (record (quotas []) { objects = stored acme ∷ record (stored team) { payload = NamespaceOf true } ∷ under team ∷ quota_in_team nine_pods [] ∷ pod team false (Some 250) ∷ [] }) ≡ None
unfolding resource_named charge_of is_copy used same_object
team_leaves = refl

-- two containers ask for 750 together, and an init container for more
abbrev starting : Object
starting = record (pod team false None) { payload = Plain (codes "{}") (record { finished = false; token = false; storage = 0; containers = record (container (Some 1000)) { init = true } ∷ container (Some 250) ∷ container (Some 500) ∷ [] }) }

most_at_start : told_in (quotas (quota_in_team (limit cpu 2000 ∷ []) [] ∷ starting ∷ [])) ≡ told (limit cpu 2000 ∷ []) (usage cpu 2000 1000 ∷ [])
unfolding resource_named charge_of is_copy used same_object
most_at_start = refl

-- two limits that count Pods, one of them those that have finished too
both_limits : told_in (quotas (quota_in_team (limit (codes "count/pods") 4000 ∷ limit pods 9000 ∷ []) [] ∷ pod team true (Some 250) ∷ [])) ≡ told (limit (codes "count/pods") 4000 ∷ limit pods 9000 ∷ []) (usage (codes "count/pods") 4000 1000 ∷ usage pods 9000 0 ∷ [])
unfolding resource_named charge_of is_copy used same_object
both_limits = refl

-- a copy isn't counted
copy_untold : told_in (quotas (quota_in_team (limit configs 2000 ∷ []) [] ∷ copy (config team (codes "a")) ∷ config team (codes "b") ∷ [])) ≡ told (limit configs 2000 ∷ []) (usage configs 2000 1000 ∷ [])
unfolding resource_named charge_of is_copy used same_object
copy_untold = refl

-- ---- texts

-- the message
message : message_of (OverQuota team (codes "q") cpu 1500 2000 3000) ≡ codes "quota q in namespace team: requests.cpu used 1500m, asked 2, hard 3"
unfolding quota_message quantity_text digits
message = refl

-- the body
body : status_text (OverQuota team (codes "q") cpu 1500 2000 3000)
    ≡ codes "{\"apiVersion\":\"v1\",\"code\":403,\"details\":{\"asked\":\"2\",\"hard\":\"3\",\"namespace\":\"team\",\"quota\":\"q\",\"resource\":\"requests.cpu\",\"rule\":\"Q1\",\"used\":\"1500m\"},\"kind\":\"Status\",\"message\":\"quota q in namespace team: requests.cpu used 1500m, asked 2, hard 3\",\"metadata\":{},\"reason\":\"Forbidden\",\"status\":\"Failure\"}"
unfolding status_text quota_message quantity_text digits serde_json_on_literals
body = refl
