-- What quotas limit and what objects are charged, computed. Each expected value is worked out by hand.
use Rattle.std.proofs.Common.{◌≡◌, ℕ, Bool, true, false, List, [], ◌∷◌, ◌++◌, codes, Option, None, Some, refl}
use Rattle.hx_object.specs.Kinds.{resource_of}
use Rattle.hx_object.specs.WellKnown.{inherited_from}
use Rattle.hx_object.specs.declared.kind.Kind.{Kind}
use Rattle.hx_object.specs.declared.kind.Kind.TheVariants.{HncConfiguration, HierarchyConfiguration, SubnamespaceAnchor, HierarchicalResourceQuota, Role, RoleBinding, ConfigMap, Secret, NetworkPolicy, LimitRange, Pod, Service, PersistentVolumeClaim}
use Rattle.hx_object.specs.declared.object.Container.{Container}
use Rattle.hx_object.specs.declared.object.Need.{Need}
use Rattle.hx_object.specs.declared.object.Object.{Object}
use Rattle.hx_object.specs.declared.object.Payload.{Payload}
use Rattle.hx_object.specs.declared.object.Payload.TheVariants.{Plain, Quota}
use Rattle.hx_model.specs.Charges.{resource_named, charge_of, is_unstated}
use Rattle.hx_model.specs.Limits.{is_copy}
use Rattle.hx_model.specs.Texts.{new_namespace}
use Rattle.hx_model.specs.declared.resource.Resource.{Resource}
use Rattle.hx_model.specs.declared.resource.Resource.TheVariants.{Pods, RequestsCpu, RequestsMemory, LimitsCpu, LimitsMemory, RequestsStorage, CountRoles, CountRoleBindings, CountConfigMaps, CountSecrets, CountNetworkPolicies, CountLimitRanges, CountPods, CountServices, CountClaims}

-- ---- names

named_pods : resource_named (codes "pods") ≡ Some Pods
unfolding resource_named
named_pods = refl

named_requests_cpu : resource_named (codes "requests.cpu") ≡ Some RequestsCpu
unfolding resource_named
named_requests_cpu = refl

named_cpu : resource_named (codes "cpu") ≡ Some RequestsCpu
unfolding resource_named
named_cpu = refl

named_requests_memory : resource_named (codes "requests.memory") ≡ Some RequestsMemory
unfolding resource_named
named_requests_memory = refl

named_memory : resource_named (codes "memory") ≡ Some RequestsMemory
unfolding resource_named
named_memory = refl

named_limits_cpu : resource_named (codes "limits.cpu") ≡ Some LimitsCpu
unfolding resource_named
named_limits_cpu = refl

named_limits_memory : resource_named (codes "limits.memory") ≡ Some LimitsMemory
unfolding resource_named
named_limits_memory = refl

named_requests_storage : resource_named (codes "requests.storage") ≡ Some RequestsStorage
unfolding resource_named
named_requests_storage = refl

named_count_roles_rbac_authorization_k8s_io : resource_named (codes "count/roles.rbac.authorization.k8s.io") ≡ Some CountRoles
unfolding resource_named
named_count_roles_rbac_authorization_k8s_io = refl

named_count_rolebindings_rbac_authorization_k8s_io : resource_named (codes "count/rolebindings.rbac.authorization.k8s.io") ≡ Some CountRoleBindings
unfolding resource_named
named_count_rolebindings_rbac_authorization_k8s_io = refl

named_count_configmaps : resource_named (codes "count/configmaps") ≡ Some CountConfigMaps
unfolding resource_named
named_count_configmaps = refl

named_configmaps : resource_named (codes "configmaps") ≡ Some CountConfigMaps
unfolding resource_named
named_configmaps = refl

named_count_secrets : resource_named (codes "count/secrets") ≡ Some CountSecrets
unfolding resource_named
named_count_secrets = refl

named_secrets : resource_named (codes "secrets") ≡ Some CountSecrets
unfolding resource_named
named_secrets = refl

named_count_networkpolicies_networking_k8s_io : resource_named (codes "count/networkpolicies.networking.k8s.io") ≡ Some CountNetworkPolicies
unfolding resource_named
named_count_networkpolicies_networking_k8s_io = refl

named_count_limitranges : resource_named (codes "count/limitranges") ≡ Some CountLimitRanges
unfolding resource_named
named_count_limitranges = refl

named_count_pods : resource_named (codes "count/pods") ≡ Some CountPods
unfolding resource_named
named_count_pods = refl

named_count_services : resource_named (codes "count/services") ≡ Some CountServices
unfolding resource_named
named_count_services = refl

named_services : resource_named (codes "services") ≡ Some CountServices
unfolding resource_named
named_services = refl

named_count_persistentvolumeclaims : resource_named (codes "count/persistentvolumeclaims") ≡ Some CountClaims
unfolding resource_named
named_count_persistentvolumeclaims = refl

named_persistentvolumeclaims : resource_named (codes "persistentvolumeclaims") ≡ Some CountClaims
unfolding resource_named
named_persistentvolumeclaims = refl

-- ---- other names

unnamed_nothing : resource_named (codes "") ≡ None
unfolding resource_named
unnamed_nothing = refl

unnamed_storage : resource_named (codes "storage") ≡ None
unfolding resource_named
unnamed_storage = refl

unnamed_a_plural_of_a_group : resource_named (codes "roles") ≡ None
unfolding resource_named
unnamed_a_plural_of_a_group = refl

unnamed_a_bare_range : resource_named (codes "limitranges") ≡ None
unfolding resource_named
unnamed_a_bare_range = refl

unnamed_a_count_without_its_group : resource_named (codes "count/roles") ≡ None
unfolding resource_named
unnamed_a_count_without_its_group = refl

unnamed_a_count_of_namespaces : resource_named (codes "count/namespaces") ≡ None
unfolding resource_named
unnamed_a_count_of_namespaces = refl

unnamed_no_count : resource_named (codes "count/") ≡ None
unfolding resource_named
unnamed_no_count = refl

unnamed_a_capital : resource_named (codes "Pods") ≡ None
unfolding resource_named
unnamed_a_capital = refl

unnamed_more : resource_named (codes "pods ") ≡ None
unfolding resource_named
unnamed_more = refl

unnamed_less : resource_named (codes "requests.cp") ≡ None
unfolding resource_named
unnamed_less = refl

-- a name of a count is `count/` and the resource of the kind
abbrev counts_kind : Kind → Resource → Type 0
counts_kind kind r = resource_named (codes "count/" ++ resource_of kind) ≡ Some r

counts_roles : counts_kind Role CountRoles
unfolding resource_named
counts_roles = refl

counts_rolebindings : counts_kind RoleBinding CountRoleBindings
unfolding resource_named
counts_rolebindings = refl

counts_configmaps : counts_kind ConfigMap CountConfigMaps
unfolding resource_named
counts_configmaps = refl

counts_secrets : counts_kind Secret CountSecrets
unfolding resource_named
counts_secrets = refl

counts_networkpolicies : counts_kind NetworkPolicy CountNetworkPolicies
unfolding resource_named
counts_networkpolicies = refl

counts_limitranges : counts_kind LimitRange CountLimitRanges
unfolding resource_named
counts_limitranges = refl

counts_pods : counts_kind Pod CountPods
unfolding resource_named
counts_pods = refl

counts_services : counts_kind Service CountServices
unfolding resource_named
counts_services = refl

counts_claims : counts_kind PersistentVolumeClaim CountClaims
unfolding resource_named
counts_claims = refl

-- ---- objects

abbrev container : Bool → List (Option ℕ) → Container
container init asks = record { init = init; asks = asks }

abbrev cpu : ℕ → List (Option ℕ)
cpu amount = Some amount ∷ None ∷ None ∷ None ∷ []

abbrev needing : Bool → ℕ → List Container → Need
needing finished storage containers = record { finished = finished; token = false; storage = storage; containers = containers }

abbrev nothing : Need
nothing = needing false 0 []

abbrev holding : Kind → List (List ℕ × List ℕ) → Payload → Object
holding kind labels payload = record { id = record { kind = kind; ns = codes "acme"; name = codes "x" }; labels = labels; annotations = []; payload = payload; version = 1 }

abbrev plain : Kind → List (List ℕ × List ℕ) → Need → Object
plain kind labels need = holding kind labels (Plain (codes "{}") need)

abbrev pod : Bool → List Container → Object
pod finished containers = plain Pod [] (needing finished 0 containers)

abbrev claim : ℕ → Object
claim storage = plain PersistentVolumeClaim [] (needing false storage [])

abbrev quota : Object
quota = holding HierarchicalResourceQuota [] (Quota [] [])

abbrev other : Kind → Object
other kind = plain kind [] (needing false 5000 (container false (cpu 250) ∷ []))

-- the label of a copy
abbrev inherited : List (List ℕ × List ℕ)
inherited = (inherited_from, codes "root") ∷ []

abbrev beside : List Container
beside = container false (cpu 250) ∷ container false (cpu 500) ∷ []

abbrev with_init : List Container
with_init = container true (cpu 1000) ∷ beside

abbrev with_small_init : List Container
with_small_init = container false (cpu 250) ∷ container true (cpu 600) ∷ container false (cpu 500) ∷ []

abbrev two_inits : List Container
two_inits = container true (Some 700 ∷ Some 20 ∷ None ∷ None ∷ []) ∷ container true (Some 900 ∷ Some 10 ∷ None ∷ None ∷ []) ∷ []

abbrev four : List Container
four = container false (Some 1 ∷ Some 2 ∷ Some 3 ∷ Some 4 ∷ []) ∷ []

-- ---- Pods

-- 250 and 500 run beside each other
pod_beside : charge_of (pod false beside) RequestsCpu ≡ 750
unfolding charge_of is_copy
pod_beside = refl

-- an init container that asks for more than both
pod_with_init : charge_of (pod false with_init) RequestsCpu ≡ 1000
unfolding charge_of is_copy
pod_with_init = refl

-- one that asks for less
pod_small_init : charge_of (pod false with_small_init) RequestsCpu ≡ 750
unfolding charge_of is_copy
pod_small_init = refl

-- init containers run one after the other: 700 and 900 are 900
pod_two_inits : charge_of (pod false two_inits) RequestsCpu ≡ 900
unfolding charge_of is_copy
pod_two_inits = refl

pod_only_inits_memory : charge_of (pod false two_inits) RequestsMemory ≡ 20
unfolding charge_of is_copy
pod_only_inits_memory = refl

-- each ask by itself
pod_limits : charge_of (pod false four) LimitsCpu ≡ 3
unfolding charge_of is_copy
pod_limits = refl

pod_limits_memory : charge_of (pod false four) LimitsMemory ≡ 4
unfolding charge_of is_copy
pod_limits_memory = refl

pod_memory : charge_of (pod false four) RequestsMemory ≡ 2
unfolding charge_of is_copy
pod_memory = refl

-- no containers
pod_none : charge_of (pod false []) RequestsCpu ≡ 0
unfolding charge_of is_copy
pod_none = refl

-- what isn't stated is 0
pod_unstated : charge_of (pod false (container false [] ∷ container false (Some 5 ∷ []) ∷ [])) RequestsCpu ≡ 5
unfolding charge_of is_copy
pod_unstated = refl

pod_one : charge_of (pod false with_init) Pods ≡ 1000
unfolding charge_of is_copy
pod_one = refl

pod_counted : charge_of (pod false with_init) CountPods ≡ 1000
unfolding charge_of is_copy
pod_counted = refl

pod_no_storage : charge_of (pod false with_init) RequestsStorage ≡ 0
unfolding charge_of is_copy
pod_no_storage = refl

pod_no_secret : charge_of (pod false with_init) CountSecrets ≡ 0
unfolding charge_of is_copy
pod_no_secret = refl

-- ---- finished Pods

finished_cpu : charge_of (pod true with_init) RequestsCpu ≡ 0
unfolding charge_of is_copy
finished_cpu = refl

finished_memory : charge_of (pod true four) RequestsMemory ≡ 0
unfolding charge_of is_copy
finished_memory = refl

finished_limit : charge_of (pod true four) LimitsCpu ≡ 0
unfolding charge_of is_copy
finished_limit = refl

finished_limit_memory : charge_of (pod true four) LimitsMemory ≡ 0
unfolding charge_of is_copy
finished_limit_memory = refl

finished_one : charge_of (pod true with_init) Pods ≡ 0
unfolding charge_of is_copy
finished_one = refl

-- it is still an object
finished_counted : charge_of (pod true with_init) CountPods ≡ 1000
unfolding charge_of is_copy
finished_counted = refl

-- ---- claims

claim_storage : charge_of (claim 5000) RequestsStorage ≡ 5000
unfolding charge_of is_copy
claim_storage = refl

claim_counted : charge_of (claim 5000) CountClaims ≡ 1000
unfolding charge_of is_copy
claim_counted = refl

claim_no_cpu : charge_of (claim 5000) RequestsCpu ≡ 0
unfolding charge_of is_copy
claim_no_cpu = refl

claim_no_pod : charge_of (claim 5000) Pods ≡ 0
unfolding charge_of is_copy
claim_no_pod = refl

-- storage of another kind
no_claim : charge_of (plain Secret [] (needing false 5000 [])) RequestsStorage ≡ 0
unfolding charge_of is_copy
no_claim = refl

-- containers of another kind
no_pod : charge_of (plain Secret [] (needing false 0 beside)) RequestsCpu ≡ 0
unfolding charge_of is_copy
no_pod = refl

-- ---- counts

one_of_roles : charge_of (plain Role [] nothing) CountRoles ≡ 1000
unfolding charge_of is_copy
one_of_roles = refl

one_of_rolebindings : charge_of (plain RoleBinding [] nothing) CountRoleBindings ≡ 1000
unfolding charge_of is_copy
one_of_rolebindings = refl

one_of_configmaps : charge_of (plain ConfigMap [] nothing) CountConfigMaps ≡ 1000
unfolding charge_of is_copy
one_of_configmaps = refl

one_of_secrets : charge_of (plain Secret [] nothing) CountSecrets ≡ 1000
unfolding charge_of is_copy
one_of_secrets = refl

one_of_networkpolicies : charge_of (plain NetworkPolicy [] nothing) CountNetworkPolicies ≡ 1000
unfolding charge_of is_copy
one_of_networkpolicies = refl

one_of_limitranges : charge_of (plain LimitRange [] nothing) CountLimitRanges ≡ 1000
unfolding charge_of is_copy
one_of_limitranges = refl

one_of_services : charge_of (plain Service [] nothing) CountServices ≡ 1000
unfolding charge_of is_copy
one_of_services = refl

role_no_binding : charge_of (plain Role [] nothing) CountRoleBindings ≡ 0
unfolding charge_of is_copy
role_no_binding = refl

service_no_pod : charge_of (plain Service [] nothing) Pods ≡ 0
unfolding charge_of is_copy
service_no_pod = refl

-- ---- copies

copied_secret : charge_of (plain Secret inherited nothing) CountSecrets ≡ 0
unfolding charge_of is_copy
copied_secret = refl

copied_role : charge_of (plain Role inherited nothing) CountRoles ≡ 0
unfolding charge_of is_copy
copied_role = refl

-- Services and Pods aren't copied, whatever their labels
labelled_service : charge_of (plain Service inherited nothing) CountServices ≡ 1000
unfolding charge_of is_copy
labelled_service = refl

labelled_pod : charge_of (plain Pod inherited (needing false 0 beside)) RequestsCpu ≡ 750
unfolding charge_of is_copy
labelled_pod = refl

-- ---- HNC's own kinds, and namespaces

a_namespace : charge_of (new_namespace (codes "acme")) CountConfigMaps ≡ 0
unfolding charge_of is_copy
a_namespace = refl

a_quota : charge_of (quota) CountSecrets ≡ 0
unfolding charge_of is_copy
a_quota = refl

a_config : charge_of (other HncConfiguration) Pods ≡ 0
unfolding charge_of is_copy
a_config = refl

a_hierarchy : charge_of (other HierarchyConfiguration) CountRoles ≡ 0
unfolding charge_of is_copy
a_hierarchy = refl

an_anchor : charge_of (other SubnamespaceAnchor) RequestsCpu ≡ 0
unfolding charge_of is_copy
an_anchor = refl

-- ---- what isn't stated

all_state : is_unstated (pod false beside) RequestsCpu ≡ false
unfolding is_unstated
all_state = refl

none_state : is_unstated (pod false beside) LimitsCpu ≡ true
unfolding is_unstated
none_state = refl

one_lacks : is_unstated (pod false (container false [] ∷ beside)) RequestsCpu ≡ true
unfolding is_unstated
one_lacks = refl

-- an init container among them
an_init_lacks : is_unstated (pod false (container true [] ∷ beside)) RequestsCpu ≡ true
unfolding is_unstated
an_init_lacks = refl

a_zero_is_stated : is_unstated (pod false (container false (Some 0 ∷ None ∷ None ∷ None ∷ []) ∷ [])) RequestsCpu ≡ false
unfolding is_unstated
a_zero_is_stated = refl

-- no container is none that doesn't state it
no_containers_state : is_unstated (pod false []) RequestsCpu ≡ false
unfolding is_unstated
no_containers_state = refl

-- a resource that isn't asked for
pods_arent_stated : is_unstated (pod false beside) Pods ≡ false
unfolding is_unstated
pods_arent_stated = refl

counts_arent_stated : is_unstated (pod false beside) CountPods ≡ false
unfolding is_unstated
counts_arent_stated = refl

storage_isnt_stated : is_unstated (pod false beside) RequestsStorage ≡ false
unfolding is_unstated
storage_isnt_stated = refl

finished_lacks : is_unstated (pod true beside) LimitsMemory ≡ true
unfolding is_unstated
finished_lacks = refl

a_claim_lacks_nothing : is_unstated (claim 5000) RequestsCpu ≡ false
unfolding is_unstated
a_claim_lacks_nothing = refl

a_secret_lacks_nothing : is_unstated (plain Secret [] (needing false 0 (container false [] ∷ []))) RequestsCpu ≡ false
unfolding is_unstated
a_secret_lacks_nothing = refl
