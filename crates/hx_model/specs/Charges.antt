-- What quotas limit, and what objects are charged for it, in thousandths.
--     hard_of            the limits of a quota, in order of names
--     resource_named     the resource that a name in `spec.hard` stands for
--     all_resources      all of them
--     charge_of x r      what an object is charged for a resource
--     kind_for r, resources_for k    the kind whose objects are charged for a resource;  the resources that objects of a kind are charged for
--     is_unstated x r    a Pod has a container that doesn't state what it asks of the resource
use Prim.Native.String.{String}
use Rattle.std.specs.Prelude.{ℕ, Bool, true, false, not, ◌&&◌, nat_eq, List, [], ◌∷◌, codes, slice_index_or, Option, Some, None, is_none, unwrap_or, fold, max, sum_by, if◌then◌else◌}
use Rattle.std.specs.List.{list_any}
use Rattle.std.specs.Map.{lookup}
use Rattle.std.specs.Str.{bytes_eq}
use Rattle.hx_object.specs.Kinds.{number_of, is_plain}
use Rattle.hx_object.specs.declared.kind.Kind.{Kind}
use Rattle.hx_object.specs.declared.kind.Kind.TheVariants.{Role, RoleBinding, ConfigMap, Secret, NetworkPolicy, LimitRange, Pod, Service, PersistentVolumeClaim}
use Rattle.hx_object.specs.declared.object.Container.{Container}
use Rattle.hx_object.specs.declared.object.Limit.{Limit}
use Rattle.hx_object.specs.declared.object.Object.{Object}
use Rattle.hx_object.specs.declared.object.Payload.{Payload}
use Rattle.hx_object.specs.declared.object.Payload.TheVariants.{Quota, Plain}
use Rattle.hx_model.specs.Limits.{is_copy}
use Rattle.hx_model.specs.declared.resource.Resource.{Resource}
use Rattle.hx_model.specs.declared.resource.Resource.TheVariants.{Pods, RequestsCpu, RequestsMemory, LimitsCpu, LimitsMemory, RequestsStorage, CountRoles, CountRoleBindings, CountConfigMaps, CountSecrets, CountNetworkPolicies, CountLimitRanges, CountPods, CountServices, CountClaims}

-- ---- names

abbrev called : String → Resource → List ℕ × Resource
called name resource = (codes name, resource)

-- the names in `spec.hard`: those of a count are `count/` and the resource of the kind, and four kinds have a short name too
abbrev pub resource_names : List (List ℕ × Resource)
resource_names =
    called "pods" Pods
    ∷ called "requests.cpu" RequestsCpu ∷ called "cpu" RequestsCpu
    ∷ called "requests.memory" RequestsMemory ∷ called "memory" RequestsMemory
    ∷ called "limits.cpu" LimitsCpu
    ∷ called "limits.memory" LimitsMemory
    ∷ called "requests.storage" RequestsStorage
    ∷ called "count/roles.rbac.authorization.k8s.io" CountRoles
    ∷ called "count/rolebindings.rbac.authorization.k8s.io" CountRoleBindings
    ∷ called "count/configmaps" CountConfigMaps ∷ called "configmaps" CountConfigMaps
    ∷ called "count/secrets" CountSecrets ∷ called "secrets" CountSecrets
    ∷ called "count/networkpolicies.networking.k8s.io" CountNetworkPolicies
    ∷ called "count/limitranges" CountLimitRanges
    ∷ called "count/pods" CountPods
    ∷ called "count/services" CountServices ∷ called "services" CountServices
    ∷ called "count/persistentvolumeclaims" CountClaims ∷ called "persistentvolumeclaims" CountClaims
    ∷ []

-- the resource of a name; any other name has none
unfoldable pub resource_named : List ℕ → Option Resource
resource_named name = lookup (bytes_eq name) resource_names

-- all resources
abbrev pub all_resources : List Resource
all_resources =
    Pods ∷ RequestsCpu ∷ RequestsMemory ∷ LimitsCpu ∷ LimitsMemory ∷ RequestsStorage
    ∷ CountRoles ∷ CountRoleBindings ∷ CountConfigMaps ∷ CountSecrets ∷ CountNetworkPolicies ∷ CountLimitRanges ∷ CountPods ∷ CountServices ∷ CountClaims
    ∷ []

-- the limits of a quota
abbrev pub hard_of : Payload → List Limit
hard_of (Quota hard status) = hard
hard_of _ = []

-- ---- what was read from the members of an object

abbrev pub is_finished : Payload → Bool
is_finished (Plain members need) = need.finished
is_finished _ = false

abbrev pub storage_in : Payload → ℕ
storage_in (Plain members need) = need.storage
storage_in _ = 0

abbrev pub containers_in : Payload → List Container
containers_in (Plain members need) = need.containers
containers_in _ = []

-- ---- containers

-- what a container asks for, by the place among its asks: requests.cpu, requests.memory, limits.cpu, limits.memory
abbrev pub stated : ℕ → Container → Option ℕ
stated ask c = slice_index_or c.asks ask None

-- the same, where what isn't stated is 0
abbrev pub amount_of : ℕ → Container → ℕ
amount_of ask c = unwrap_or (stated ask c) 0

-- what a container asks for that runs beside the others
abbrev pub amount_beside : ℕ → Container → ℕ
amount_beside ask c = if c.init then 0 else amount_of ask c

-- what a container asks for that runs alone, before the others
abbrev pub amount_before : ℕ → Container → ℕ
amount_before ask c = if c.init then amount_of ask c else 0

-- the most that an init container asks for, 0 where there is none
abbrev pub most_before : ℕ → List Container → ℕ
most_before ask containers = fold (λ most c. max most (amount_before ask c)) 0 containers

-- what all ask for together: those that run beside one another their sum, and the others the most of one
abbrev pub asked_by : ℕ → List Container → ℕ
asked_by ask containers = max (sum_by (amount_beside ask) containers) (most_before ask containers)

-- ---- charges

abbrev pub is_pod : Kind → Bool
is_pod Pod = true
is_pod _ = false

abbrev pub is_claim : Kind → Bool
is_claim PersistentVolumeClaim = true
is_claim _ = false

-- a Pod that hasn't finished
abbrev pub is_running : Kind → Payload → Bool
is_running kind payload = is_pod kind && not (is_finished payload)

abbrev pub asked_of : Kind → Payload → ℕ → ℕ
asked_of kind payload ask = if is_running kind payload then asked_by ask (containers_in payload) else 0

-- one, in thousandths, for an object of the kind that is counted
abbrev pub one_of : Kind → Kind → ℕ
one_of counted kind = if nat_eq (number_of counted) (number_of kind) then 1000 else 0

-- what an object of a kind is charged
abbrev pub charge_by : Kind → Payload → Resource → ℕ
charge_by kind payload Pods = if is_running kind payload then 1000 else 0
charge_by kind payload RequestsCpu = asked_of kind payload 0
charge_by kind payload RequestsMemory = asked_of kind payload 1
charge_by kind payload LimitsCpu = asked_of kind payload 2
charge_by kind payload LimitsMemory = asked_of kind payload 3
charge_by kind payload RequestsStorage = if is_claim kind then storage_in payload else 0
charge_by kind payload CountRoles = one_of Role kind
charge_by kind payload CountRoleBindings = one_of RoleBinding kind
charge_by kind payload CountConfigMaps = one_of ConfigMap kind
charge_by kind payload CountSecrets = one_of Secret kind
charge_by kind payload CountNetworkPolicies = one_of NetworkPolicy kind
charge_by kind payload CountLimitRanges = one_of LimitRange kind
charge_by kind payload CountPods = one_of Pod kind
charge_by kind payload CountServices = one_of Service kind
charge_by kind payload CountClaims = one_of PersistentVolumeClaim kind

-- namespaces, objects of HNC's own kinds and copies are charged nothing
abbrev pub is_charged : Object → Bool
is_charged x = is_plain x.id.kind && not (is_copy x)

-- what an object is charged, in thousandths
unfoldable pub charge_of : Object → Resource → ℕ
charge_of x resource = if is_charged x then charge_by x.id.kind x.payload resource else 0

-- ---- kinds

-- the kind whose objects are charged for a resource: those of all others are charged nothing
abbrev pub kind_for : Resource → Kind
kind_for Pods = Pod
kind_for RequestsCpu = Pod
kind_for RequestsMemory = Pod
kind_for LimitsCpu = Pod
kind_for LimitsMemory = Pod
kind_for RequestsStorage = PersistentVolumeClaim
kind_for CountRoles = Role
kind_for CountRoleBindings = RoleBinding
kind_for CountConfigMaps = ConfigMap
kind_for CountSecrets = Secret
kind_for CountNetworkPolicies = NetworkPolicy
kind_for CountLimitRanges = LimitRange
kind_for CountPods = Pod
kind_for CountServices = Service
kind_for CountClaims = PersistentVolumeClaim

-- the resources that objects of a kind are charged for
abbrev pub resources_for : Kind → List Resource
resources_for Role = CountRoles ∷ []
resources_for RoleBinding = CountRoleBindings ∷ []
resources_for ConfigMap = CountConfigMaps ∷ []
resources_for Secret = CountSecrets ∷ []
resources_for NetworkPolicy = CountNetworkPolicies ∷ []
resources_for LimitRange = CountLimitRanges ∷ []
resources_for Pod = Pods ∷ RequestsCpu ∷ RequestsMemory ∷ LimitsCpu ∷ LimitsMemory ∷ CountPods ∷ []
resources_for Service = CountServices ∷ []
resources_for PersistentVolumeClaim = RequestsStorage ∷ CountClaims ∷ []
resources_for _ = []

-- ---- what isn't stated

-- the place of a resource among the asks of a container
abbrev pub ask_of : Resource → Option ℕ
ask_of RequestsCpu = Some 0
ask_of RequestsMemory = Some 1
ask_of LimitsCpu = Some 2
ask_of LimitsMemory = Some 3
ask_of _ = None

-- some container states nothing there
abbrev pub lacks : List Container → Option ℕ → Bool
lacks containers None = false
lacks containers (Some ask) = list_any (λ c. is_none (stated ask c)) containers

-- a Pod of which some container, an init container among them, doesn't state what it asks of the resource
unfoldable pub is_unstated : Object → Resource → Bool
is_unstated x resource = is_pod x.id.kind && lacks (containers_in x.payload) (ask_of resource)
