-- What a body says, and the first fault of one.
--     Target           the path's kind and namespace, and its name on a PUT
--     target_at k ns n the target of these
--     member_fault p d the first fault of the members of a body
--     fault_of p d     the first fault of the value of a body
--     object_of p d    the object that a body without fault says
--     expected_of n d  the version that it expects
-- A member that is absent, or null and not required, counts as absent. Where `spec` is there, isn't null and isn't an object, each member inside it has the wrong type.
use Rattle.std.specs.Prelude.{◌^◌, ◌-◌, ◌*◌, ◌+◌, ◌==◌, ℕ, Bool, true, false, not, ◌&&◌, ◌||◌, nat_le, List, [], ◌∷◌, codes, length, fold, Option, Some, None, option_and_then, option_map, unwrap_or, is_some, is_none, if◌then◌else◌}
use Rattle.std.specs.List.{list_all}
use Rattle.std.specs.Option.{option_map_or}
use Rattle.std.specs.Str.{bytes_eq}
use Rattle.serde_json.specs.Data.{Data, null, boolean, string, array, object, Items, no_items, item, Members, no_members, member}
use Rattle.serde_json.specs.Find.{get}
use Rattle.serde_json.specs.Written.{compact_text}
use Rattle.hx_object.specs.Faults.{object_fault}
use Rattle.hx_object.specs.Json.{members_in}
use Rattle.hx_object.specs.Kinds.{name_of, api_version_of}
use Rattle.hx_object.specs.Names.{is_digit}
use Rattle.hx_object.specs.Needs.{amount_in, need_of, written_in}
pub use Rattle.hx_object.specs.Values.{counted_member, in_spec, items_in, text_in, unless_null}
use Rattle.hx_object.specs.declared.kind.Kind.{Kind}
use Rattle.hx_object.specs.declared.kind.Kind.TheVariants.{Namespace, HncConfiguration, HierarchyConfiguration, SubnamespaceAnchor, HierarchicalResourceQuota, Secret, Pod, PersistentVolumeClaim}
use Rattle.hx_object.specs.declared.object.Id.{Id}
use Rattle.hx_object.specs.declared.object.Object.{Object}
use Rattle.hx_object.specs.declared.object.Limit.{Limit}
use Rattle.hx_object.specs.declared.object.Mode.{Mode}
use Rattle.hx_object.specs.declared.object.Mode.TheVariants.{Propagate, Remove, Ignore}
use Rattle.hx_object.specs.declared.object.ModeEntry.{ModeEntry}
use Rattle.hx_object.specs.declared.object.Payload.{Payload}
use Rattle.hx_object.specs.declared.object.Payload.TheVariants.{Namespace as NamespaceOf, Config, Hierarchy, Anchor, Quota, Plain}
use Rattle.hx_model.specs.First.{so, or_else, first}
use Rattle.hx_json.specs.declared.fault.JsonFault.{JsonFault}
use Rattle.hx_json.specs.declared.fault.JsonFault.TheVariants.{WrongKind, MissingMember, WrongType, BadQuantity, WrongPlace, Object as ObjectFaultOf}

-- the path's kind and namespace, and on a PUT its name
pub record Target : Type 0 where
  pub kind : Kind
  pub ns : List ℕ
  pub name : Option (List ℕ)

abbrev pub target_at : Kind → List ℕ → Option (List ℕ) → Target
target_at kind ns name = record { kind = kind; ns = ns; name = name }

-- ---- members

abbrev pub is_text : Data → Bool
is_text (string text) = true
is_text _ = false

abbrev pub is_object : Data → Bool
is_object (object ms) = true
is_object _ = false

abbrev pub is_truth : Data → Bool
is_truth (boolean b) = true
is_truth _ = false

abbrev pub are_texts : Members → Bool
are_texts no_members = true
are_texts (member k d ms) = is_text d && are_texts ms

-- an object of texts
abbrev pub is_texts : Data → Bool
is_texts (object ms) = are_texts ms
is_texts _ = false

-- a member is absent or passes a test, and else has the wrong type
abbrev pub type_fault : List ℕ → (Data → Bool) → Option Data → Option JsonFault
type_fault path passes None = None
type_fault path passes (Some d) = so (not (passes d)) (WrongType path)

-- a member that is required, and may not be null
abbrev pub required_fault : List ℕ → (Data → Bool) → Option Data → Option JsonFault
required_fault path passes None = Some (MissingMember path)
required_fault path passes (Some d) = so (not (passes d)) (WrongType path)

-- a member is this text
abbrev pub is_this : List ℕ → Option Data → Bool
is_this wanted found = option_map_or (bytes_eq wanted) (text_in found) false

-- ---- the head

-- a value that counts as an empty object where it isn't one
abbrev pub metadata_in : Data → Data
metadata_in d = unwrap_or (get (codes "metadata") d) null

-- on a POST the name is required
abbrev pub name_fault : Option (List ℕ) → Data → Option JsonFault
name_fault None d = required_fault (codes "metadata.name") is_text (get (codes "name") d)
name_fault (Some name) d = type_fault (codes "metadata.name") is_text (counted_member (codes "name") d)

abbrev pub kind_fault : Kind → Data → Option JsonFault
kind_fault kind d = so (not (is_this (api_version_of kind) (get (codes "apiVersion") d)) || not (is_this (name_of kind) (get (codes "kind") d))) WrongKind

abbrev pub metadata_faults : Option (List ℕ) → Data → List (Option JsonFault)
metadata_faults name d =
    name_fault name d
    ∷ type_fault (codes "metadata.namespace") is_text (counted_member (codes "namespace") d)
    ∷ type_fault (codes "metadata.resourceVersion") is_text (counted_member (codes "resourceVersion") d)
    ∷ type_fault (codes "metadata.labels") is_texts (counted_member (codes "labels") d)
    ∷ type_fault (codes "metadata.annotations") is_texts (counted_member (codes "annotations") d)
    ∷ []

-- of a path's kind and, on a PUT, its name
abbrev pub head_faults : Kind → Option (List ℕ) → Data → List (Option JsonFault)
head_faults kind name d =
    so (not (is_object d)) (WrongType [])
    ∷ kind_fault kind d
    ∷ required_fault (codes "metadata") is_object (get (codes "metadata") d)
    ∷ metadata_faults name (metadata_in d)

-- ---- what is specified

-- a member of `spec` is absent or passes a test. Where `spec` is no object, the member has the wrong type
abbrev pub spec_fault : List ℕ → List ℕ → (Data → Bool) → Data → Option JsonFault
spec_fault path name passes d =
    option_and_then (λ spec. if is_object spec then type_fault path passes (counted_member name spec) else Some (WrongType path)) (counted_member (codes "spec") d)

-- each item is an object
abbrev pub are_objects : Items → Bool
are_objects no_items = true
are_objects (item d ds) = is_object d && are_objects ds

-- a list of objects
abbrev pub is_entries : Data → Bool
is_entries (array ds) = are_objects ds
is_entries _ = false

-- the first fault of the items
abbrev pub first_of_items : (Data → Option JsonFault) → Items → Option JsonFault
first_of_items fault no_items = None
first_of_items fault (item d ds) = or_else (fault d) (first_of_items fault ds)

-- the modes that bodies may name. The empty text is Propagate
abbrev pub mode_of_text : List ℕ → Option Mode
mode_of_text text =
    if bytes_eq text [] || bytes_eq text (codes "Propagate") then Some Propagate
    else (if bytes_eq text (codes "Remove") then Some Remove
    else (if bytes_eq text (codes "Ignore") then Some Ignore else None))

abbrev pub is_mode : Data → Bool
is_mode d = is_some (option_and_then mode_of_text (text_in (Some d)))

abbrev pub group_fault : Data → Option JsonFault
group_fault d = type_fault (codes "spec.resources.group") is_text (counted_member (codes "group") d)

abbrev pub resource_fault : Data → Option JsonFault
resource_fault d = required_fault (codes "spec.resources.resource") is_text (get (codes "resource") d)

abbrev pub mode_fault : Data → Option JsonFault
mode_fault d = type_fault (codes "spec.resources.mode") is_mode (counted_member (codes "mode") d)

-- all groups, then all resources, then all modes
abbrev pub config_faults : Data → List (Option JsonFault)
config_faults d =
    spec_fault (codes "spec.resources") (codes "resources") is_entries d
    ∷ first_of_items group_fault (items_in (in_spec (codes "resources") d))
    ∷ first_of_items resource_fault (items_in (in_spec (codes "resources") d))
    ∷ first_of_items mode_fault (items_in (in_spec (codes "resources") d))
    ∷ []

abbrev pub hierarchy_faults : Data → List (Option JsonFault)
hierarchy_faults d =
    spec_fault (codes "spec.parent") (codes "parent") is_text d
    ∷ spec_fault (codes "spec.allowCascadingDeletion") (codes "allowCascadingDeletion") is_truth d
    ∷ []

-- ---- quotas, Pods and claims

-- the first fault of a member that is there, unless it is no object: then what it is to have has the wrong type
abbrev pub inner_fault : List ℕ → (Data → Option JsonFault) → Option Data → Option JsonFault
inner_fault path fault None = None
inner_fault path fault (Some d) = if is_object d then fault d else Some (WrongType path)

abbrev pub is_quantity : Data → Bool
is_quantity d = is_some (amount_in d)

-- a member is absent or a quantity
abbrev pub quantity_fault : List ℕ → Option Data → Option JsonFault
quantity_fault path None = None
quantity_fault path (Some d) = so (not (is_quantity d)) (BadQuantity path)

abbrev pub are_quantities : Members → Bool
are_quantities no_members = true
are_quantities (member k d ms) = is_quantity d && are_quantities ms

abbrev pub hard_path : List ℕ
hard_path = codes "spec.hard"

-- the faults of a quota's `spec`
abbrev pub hard_faults : Data → List (Option JsonFault)
hard_faults spec =
    required_fault hard_path is_object (get (codes "hard") spec)
    ∷ so (not (are_quantities (members_in (get (codes "hard") spec)))) (BadQuantity hard_path)
    ∷ []

-- a quota has limits, though it may have none of them
abbrev pub quota_fault : Data → Option JsonFault
quota_fault d = or_else (so (is_none (counted_member (codes "spec") d)) (MissingMember hard_path)) (inner_fault hard_path (λ spec. first (hard_faults spec)) (counted_member (codes "spec") d))

-- what a container asks for, under `requests` or `limits`
abbrev pub asks_faults : List ℕ → Data → List (Option JsonFault)
asks_faults path d = quantity_fault path (counted_member (codes "cpu") d) ∷ quantity_fault path (counted_member (codes "memory") d) ∷ []

abbrev pub asks_fault : List ℕ → List ℕ → Data → Option JsonFault
asks_fault path part resources = inner_fault path (λ d. first (asks_faults path d)) (counted_member part resources)

abbrev pub resources_faults : List ℕ → Data → List (Option JsonFault)
resources_faults path d = asks_fault path (codes "requests") d ∷ asks_fault path (codes "limits") d ∷ []

abbrev pub container_fault : List ℕ → Data → Option JsonFault
container_fault path container = inner_fault path (λ d. first (resources_faults path d)) (counted_member (codes "resources") container)

abbrev pub phase_path : List ℕ
phase_path = codes "status.phase"

-- the containers, then the init containers, one by one
abbrev pub pod_faults : Data → List (Option JsonFault)
pod_faults d =
    spec_fault (codes "spec.containers") (codes "containers") is_entries d
    ∷ spec_fault (codes "spec.initContainers") (codes "initContainers") is_entries d
    ∷ first_of_items (container_fault (codes "spec.containers.resources")) (items_in (in_spec (codes "containers") d))
    ∷ first_of_items (container_fault (codes "spec.initContainers.resources")) (items_in (in_spec (codes "initContainers") d))
    ∷ inner_fault phase_path (λ status. type_fault phase_path is_text (counted_member (codes "phase") status)) (counted_member (codes "status") d)
    ∷ []

abbrev pub storage_path : List ℕ
storage_path = codes "spec.resources.requests.storage"

-- what a claim asks for
abbrev pub claim_fault : Data → Option JsonFault
claim_fault d =
    inner_fault storage_path (λ spec. inner_fault storage_path (λ resources. inner_fault storage_path (λ requests. quantity_fault storage_path (counted_member (codes "storage") requests)) (counted_member (codes "requests") resources)) (counted_member (codes "resources") spec)) (counted_member (codes "spec") d)

-- the faults of the members that a kind has beside those of all kinds
abbrev pub own_faults : Kind → Data → List (Option JsonFault)
own_faults HncConfiguration d = config_faults d
own_faults HierarchyConfiguration d = hierarchy_faults d
own_faults HierarchicalResourceQuota d = quota_fault d ∷ []
own_faults Pod d = pod_faults d
own_faults PersistentVolumeClaim d = claim_fault d ∷ []
own_faults Secret d = type_fault (codes "type") is_text (counted_member (codes "type") d) ∷ []
own_faults _ d = []

-- ---- the object

abbrev pub text_or : List ℕ → Option Data → List ℕ
text_or default found = unwrap_or (text_in found) default

abbrev pub truth_in : Option Data → Bool
truth_in (Some (boolean b)) = b
truth_in _ = false

-- an empty text counts as absent
abbrev pub unless_empty_text : Option (List ℕ) → Option (List ℕ)
unless_empty_text (Some []) = None
unless_empty_text found = found

abbrev pub pair_of : List ℕ → Data → List ℕ × List ℕ
pair_of key d = (key, text_or [] (Some d))

abbrev pub pairs_of : Members → List (List ℕ × List ℕ)
pairs_of no_members = []
pairs_of (member k d ms) = pair_of k d ∷ pairs_of ms

-- labels or annotations
abbrev pub pairs_in : Option Data → List (List ℕ × List ℕ)
pairs_in (Some (object ms)) = pairs_of ms
pairs_in _ = []

abbrev pub entry_of : Data → ModeEntry
entry_of d = record {
  group = text_or [] (counted_member (codes "group") d);
  resource = text_or [] (counted_member (codes "resource") d);
  mode = unwrap_or (mode_of_text (text_or [] (counted_member (codes "mode") d))) Propagate;
}

abbrev pub entries_of : Items → List ModeEntry
entries_of no_items = []
entries_of (item d ds) = entry_of d ∷ entries_of ds

-- a limit, by its name and value
abbrev pub limit_of : List ℕ → Data → Limit
limit_of key d = record { resource = key; written = unwrap_or (written_in d) []; amount = unwrap_or (amount_in d) 0 }

abbrev pub limits_of : Members → List Limit
limits_of no_members = []
limits_of (member k d ms) = limit_of k d ∷ limits_of ms

-- the members without one name
abbrev pub without : List ℕ → Members → Members
without name no_members = no_members
without name (member k d ms) = if bytes_eq name k then ms else member k d (without name ms)

-- the members that a plain kind keeps
abbrev pub kept_members : Data → Members
kept_members (object ms) = without (codes "metadata") (without (codes "kind") (without (codes "apiVersion") ms))
kept_members _ = no_members

-- the payload of a kind that has none of its own
abbrev pub plain_of : Kind → Members → Payload
plain_of kind ms = Plain (compact_text (object ms)) (need_of kind ms)

-- what the body says beside the metadata. A status is never taken from a body
abbrev pub payload_of : Kind → Data → Payload
payload_of Namespace d = NamespaceOf false
payload_of HncConfiguration d = Config (entries_of (items_in (in_spec (codes "resources") d)))
payload_of HierarchyConfiguration d = Hierarchy (unless_empty_text (text_in (in_spec (codes "parent") d))) (truth_in (in_spec (codes "allowCascadingDeletion") d)) [] []
payload_of SubnamespaceAnchor d = Anchor None
payload_of HierarchicalResourceQuota d = Quota (limits_of (members_in (in_spec (codes "hard") d))) []
payload_of kind d = plain_of kind (kept_members d)

-- the identity: a name that the path has, or else the body's
abbrev pub id_of : Target → Data → Id
id_of p d = record { kind = p.kind; ns = p.ns; name = unwrap_or p.name (text_or [] (counted_member (codes "name") (metadata_in d))) }

abbrev pub object_of : Target → Data → Object
object_of p d = record {
  id = id_of p d;
  labels = pairs_in (counted_member (codes "labels") (metadata_in d));
  annotations = pairs_in (counted_member (codes "annotations") (metadata_in d));
  payload = payload_of p.kind d;
  version = 0;
}

-- ---- versions

abbrev pub number_in : List ℕ → ℕ
number_in text = fold (λ n byte. n * 10 + (byte - 48)) 0 text

abbrev pub begins_with_zero : List ℕ → Bool
begins_with_zero (byte ∷ next ∷ text) = byte == 48
begins_with_zero _ = false

-- a decimal number without leading zeros, of at most 19 digits
abbrev pub is_long_decimal : List ℕ → Bool
is_long_decimal text = nat_le 1 (length text) && (nat_le (length text) 19 && (list_all is_digit text && not (begins_with_zero text)))

-- the version of a text, of at most 2^63 - 1, or 0, which no stored object has
abbrev pub version_in : List ℕ → ℕ
version_in text = if is_long_decimal text && nat_le (number_in text) (2 ^ 63 - 1) then number_in text else 0

-- on a PUT, whose name is the path's, the version that the body names
abbrev pub expected_of : Option (List ℕ) → Data → Option ℕ
expected_of None d = None
expected_of (Some name) d = option_map version_in (unless_empty_text (text_in (counted_member (codes "resourceVersion") (metadata_in d))))

-- ---- faults

-- a given name or namespace isn't the path's
abbrev pub is_other : List ℕ → Option Data → Bool
is_other path found = option_map_or (λ given. not (bytes_eq given path)) (text_in found) false

-- of a path's namespace and, on a PUT, its name
abbrev pub is_elsewhere : List ℕ → Option (List ℕ) → Data → Bool
is_elsewhere ns name d =
    option_map_or (λ text. is_other text (counted_member (codes "name") (metadata_in d))) name false || is_other ns (counted_member (codes "namespace") (metadata_in d))

-- the first fault of what a value's members are
abbrev pub member_fault : Target → Data → Option JsonFault
member_fault p d = or_else (first (head_faults p.kind p.name d)) (or_else (first (own_faults p.kind d)) (so (is_elsewhere p.ns p.name d) WrongPlace))

-- the first fault of a value
abbrev pub fault_of : Target → Data → Option JsonFault
fault_of p d = or_else (member_fault p d) (option_map ObjectFaultOf (object_fault (object_of p d)))
