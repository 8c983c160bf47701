-- Worked bodies: each fault once, which of two comes first, and what a body says.
use Rattle.std.proofs.Common.{◌≡◌, ℕ, List, [], ◌∷◌, true, false, Option, Some, None, codes, refl}
use Rattle.serde_json.specs.Data.{Data, null, boolean, number, unsigned, string, array, object, Items, no_items, item, Members, no_members, member}
use Rattle.hx_object.specs.Faults.{object_fault, has_legal_names}
use Rattle.hx_object.specs.Names.{is_dns_label}
use Rattle.hx_object.specs.declared.kind.Kind.TheVariants.{Namespace, HncConfiguration, HierarchyConfiguration, Secret, ConfigMap}
use Rattle.hx_object.specs.declared.object.AnchorStatus.TheVariants.{Conflict}
use Rattle.hx_object.specs.declared.object.Condition.TheVariants.{InCycle, Ancestor}
use Rattle.hx_object.specs.declared.object.Mode.TheVariants.{Propagate}
use Rattle.hx_object.specs.declared.object.Payload.TheVariants.{Namespace as NamespaceOf, Config, Hierarchy, Anchor}
use Rattle.hx_object.specs.declared.object.ObjectFault.TheVariants.{BadName}
use Rattle.hx_json.specs.declared.fault.JsonFault.{JsonFault}
use Rattle.hx_json.specs.declared.fault.JsonFault.TheVariants.{WrongKind, MissingMember, WrongType, WrongPlace, Object as ObjectFaultOf}
use Rattle.hx_json.specs.Reading.{Target, target_at, expected_of, fault_of, member_fault, kept_members, object_of, payload_of, version_in}
use Rattle.hx_json.specs.Rows.{reported}

-- ---- bodies

-- a POST or a PUT of a ConfigMap, whose path has the namespace a and on a PUT the name x
abbrev post : Target
post = target_at ConfigMap (codes "a") None

abbrev put : Target
put = target_at ConfigMap (codes "a") (Some (codes "x"))

abbrev pub text : List ℕ → Data
text bytes = string bytes

abbrev pub one : List ℕ → Data → Data
one name d = object (member name d no_members)

-- a body of a kind with these members
abbrev pub body : List ℕ → List ℕ → Members → Data
body version kind ms = object (member (codes "apiVersion") (text version) (member (codes "kind") (text kind) ms))

abbrev config_map : Data → Data
config_map metadata = body (codes "v1") (codes "ConfigMap") (member (codes "metadata") metadata no_members)

-- metadata with a name and one member more
abbrev named_with : List ℕ → Data → Data
named_with name d = config_map (object (member (codes "name") (text (codes "x")) (member name d no_members)))

abbrev pub named : Data
named = one (codes "name") (text (codes "x"))

abbrev pub hnc : List ℕ → Data → Data
hnc kind spec = body (codes "hnc.x-k8s.io/v1alpha2") kind (member (codes "metadata") named (member (codes "spec") spec no_members))

abbrev hierarchy : Data → Data
hierarchy spec = hnc (codes "HierarchyConfiguration") spec

abbrev config : Items → Data
config entries = hnc (codes "HNCConfiguration") (one (codes "resources") (array entries))

abbrev entry : Data → Data → Data → Data
entry group mode resource = object (member (codes "group") group (member (codes "mode") mode (member (codes "resource") resource no_members)))

abbrev pub seven : Data
seven = number (unsigned 7)

-- ---- the head

no_object : fault_of post (array no_items) ≡ Some (WrongType [])
no_object = refl

kind_before_metadata : fault_of post (body (codes "v1") (codes "Secret") no_members) ≡ Some WrongKind
kind_before_metadata = refl

other_version : fault_of post (body (codes "v2") (codes "ConfigMap") (member (codes "metadata") named no_members)) ≡ Some WrongKind
other_version = refl

no_metadata : fault_of post (body (codes "v1") (codes "ConfigMap") no_members) ≡ Some (MissingMember (codes "metadata"))
no_metadata = refl

null_metadata : fault_of post (config_map null) ≡ Some (WrongType (codes "metadata"))
null_metadata = refl

nameless_post : fault_of post (config_map (object no_members)) ≡ Some (MissingMember (codes "metadata.name"))
nameless_post = refl

nameless_put : member_fault put (config_map (object no_members)) ≡ None
nameless_put = refl

null_name : fault_of post (config_map (one (codes "name") null)) ≡ Some (WrongType (codes "metadata.name"))
null_name = refl

null_name_put : member_fault put (config_map (one (codes "name") null)) ≡ None
null_name_put = refl

name_before_namespace : fault_of post (config_map (object (member (codes "name") seven (member (codes "namespace") seven no_members)))) ≡ Some (WrongType (codes "metadata.name"))
name_before_namespace = refl

namespace_is_a_number : fault_of post (named_with (codes "namespace") seven) ≡ Some (WrongType (codes "metadata.namespace"))
namespace_is_a_number = refl

version_is_a_number : fault_of put (named_with (codes "resourceVersion") seven) ≡ Some (WrongType (codes "metadata.resourceVersion"))
version_is_a_number = refl

label_is_a_number : fault_of post (named_with (codes "labels") (one (codes "k") seven)) ≡ Some (WrongType (codes "metadata.labels"))
label_is_a_number = refl

annotation_is_a_number : fault_of post (named_with (codes "annotations") (one (codes "k") seven)) ≡ Some (WrongType (codes "metadata.annotations"))
annotation_is_a_number = refl

null_labels : member_fault post (named_with (codes "labels") null) ≡ None
null_labels = refl

-- ---- what is specified

abbrev of_config : Data → Option JsonFault
of_config d = fault_of (target_at HncConfiguration [] None) d

abbrev of_hierarchy : Data → Option JsonFault
of_hierarchy d = fault_of (target_at HierarchyConfiguration (codes "a") None) d

config_spec_is_no_object : of_config (hnc (codes "HNCConfiguration") seven) ≡ Some (WrongType (codes "spec.resources"))
config_spec_is_no_object = refl

entry_is_no_object : of_config (config (item seven no_items)) ≡ Some (WrongType (codes "spec.resources"))
entry_is_no_object = refl

group_before_resource : of_config (config (item (entry (text []) (text []) null) (item (entry seven (text []) (text [])) no_items))) ≡ Some (WrongType (codes "spec.resources.group"))
group_before_resource = refl

resource_before_mode : of_config (config (item (entry null seven (text [])) (item (object no_members) no_items))) ≡ Some (MissingMember (codes "spec.resources.resource"))
resource_before_mode = refl

allow_propagate : of_config (config (item (entry null (text (codes "AllowPropagate")) (text (codes "secrets"))) no_items)) ≡ Some (WrongType (codes "spec.resources.mode"))
allow_propagate = refl

hierarchy_spec_is_no_object : of_hierarchy (hierarchy (array no_items)) ≡ Some (WrongType (codes "spec.parent"))
hierarchy_spec_is_no_object = refl

parent_before_cascade : of_hierarchy (hierarchy (object (member (codes "allowCascadingDeletion") seven (member (codes "parent") seven no_members)))) ≡ Some (WrongType (codes "spec.parent"))
parent_before_cascade = refl

cascade_is_a_text : of_hierarchy (hierarchy (one (codes "allowCascadingDeletion") (text (codes "true")))) ≡ Some (WrongType (codes "spec.allowCascadingDeletion"))
cascade_is_a_text = refl

secret_type_is_a_number : fault_of (target_at Secret (codes "a") None) (body (codes "v1") (codes "Secret") (member (codes "metadata") named (member (codes "type") seven no_members))) ≡ Some (WrongType (codes "type"))
secret_type_is_a_number = refl

-- ---- the place, and the object

other_name : fault_of (target_at ConfigMap (codes "a") (Some (codes "y"))) (config_map named) ≡ Some WrongPlace
other_name = refl

place_before_name : fault_of post (config_map (object (member (codes "name") (text (codes "A b")) (member (codes "namespace") (text (codes "b")) no_members)))) ≡ Some WrongPlace
place_before_name = refl

bad_name : fault_of (target_at Namespace [] None) (body (codes "v1") (codes "Namespace") (member (codes "metadata") (one (codes "name") (text (codes "A b"))) no_members)) ≡ Some (ObjectFaultOf BadName)
unfolding object_fault has_legal_names is_dns_label
bad_name = refl

-- ---- what bodies say

path_names : (object_of put (config_map (object no_members))).id ≡ record { kind = ConfigMap; ns = codes "a"; name = codes "x" }
path_names = refl

labels_said : (object_of post (named_with (codes "labels") (one (codes "k") (text (codes "v"))))).labels ≡ (codes "k", codes "v") ∷ []
labels_said = refl

empty_parent : payload_of HierarchyConfiguration (hierarchy (object (member (codes "allowCascadingDeletion") (boolean true) (member (codes "parent") (text []) no_members)))) ≡ Hierarchy None true [] []
empty_parent = refl

entry_said : payload_of HncConfiguration (config (item (entry null null (text (codes "secrets"))) no_items)) ≡ Config (record { group = []; resource = codes "secrets"; mode = Propagate } ∷ [])
entry_said = refl

members_kept : kept_members (body (codes "v1") (codes "Service") (member (codes "metadata") named (member (codes "spec") seven no_members))) ≡ member (codes "spec") seven no_members
members_kept = refl

version_expected : expected_of put.name (named_with (codes "resourceVersion") (text (codes "42"))) ≡ Some 42
version_expected = refl

no_version : expected_of put.name (named_with (codes "resourceVersion") (text (codes "042"))) ≡ Some 0
no_version = refl

empty_version : expected_of put.name (named_with (codes "resourceVersion") (text [])) ≡ None
empty_version = refl

greatest_version : version_in (codes "9223372036854775807") ≡ 9223372036854775807
greatest_version = refl

too_great : version_in (codes "9223372036854775808") ≡ 0
too_great = refl

-- ---- what rows say besides

terminating_said : reported (one (codes "status") (one (codes "phase") (text (codes "Terminating")))) (NamespaceOf false) ≡ NamespaceOf true
terminating_said = refl

active_said : reported (one (codes "status") (one (codes "phase") (text (codes "Active")))) (NamespaceOf false) ≡ NamespaceOf false
active_said = refl

status_said : reported (one (codes "status") (one (codes "status") (text (codes "Conflict")))) (Anchor None) ≡ Anchor (Some Conflict)
status_said = refl

no_status_said : reported (one (codes "status") null) (Anchor None) ≡ Anchor None
no_status_said = refl

-- an item that is no text counts as an empty one, and a condition is known by its reason alone
abbrev condition : Data → Data
condition reason = one (codes "reason") reason

hierarchy_said : reported (one (codes "status") (object
    (member (codes "children") (array (item (text (codes "a")) (item seven no_items)))
    (member (codes "conditions") (array (item (condition (text (codes "AncestorHaltActivities"))) (item (condition (text (codes "Halted"))) (item seven (item (condition (text (codes "InCycle"))) no_items))))) no_members))))
    (Hierarchy (Some (codes "p")) true [] []) ≡ Hierarchy (Some (codes "p")) true (codes "a" ∷ [] ∷ []) (Ancestor ∷ InCycle ∷ [])
hierarchy_said = refl

no_list_said : reported (one (codes "status") (object (member (codes "children") seven (member (codes "conditions") null no_members)))) (Hierarchy None false [] []) ≡ Hierarchy None false [] []
no_list_said = refl
