-- What makes an object illegal.
--     object_fault     the first fault of an object
--     IsLegal          an object without fault, whose payload is one of its kind
use Rattle.std.specs.Prelude.{◌≡◌, ◌≤◌, ◌<◌, ◌^◌, ℕ, Bool, true, not, ◌&&◌, ◌||◌, nat_lt, List, [], codes, length, map, Option, Some, None, Ok, if◌then◌else◌}
use Rattle.std.specs.List.{AllByRecursion, list_all}
use Rattle.serde_json.specs.Data.{object, Members, depth}
use Rattle.serde_json.specs.Find.{get_member}
use Rattle.serde_json.specs.Read.{max_depth}
use Rattle.serde_json.specs.Written.{compact_text}
use Rattle.hx_object.specs.Canonical.{IsCanonical}
use Rattle.hx_object.specs.Json.{hard_pair, limit_pair}
use Rattle.hx_object.specs.Kinds.{is_in_cluster, is_plain}
use Rattle.hx_object.specs.Names.{is_dns_label, is_name_of, is_label_key, is_label_value, is_annotation_key}
use Rattle.hx_object.specs.Needs.{need_of}
use Rattle.hx_object.specs.Pairs.{has_ascending_keys}
use Rattle.hx_object.specs.Quantities.{quantity_of}
use Rattle.hx_object.specs.Sizes.{counted, greatest_size, size_of}
use Rattle.hx_object.specs.declared.kind.Kind.{Kind}
use Rattle.hx_object.specs.declared.kind.Kind.TheVariants.{Namespace, HncConfiguration, HierarchyConfiguration, SubnamespaceAnchor, HierarchicalResourceQuota}
use Rattle.hx_object.specs.declared.object.Id.{Id}
use Rattle.hx_object.specs.declared.object.Object.{Object}
use Rattle.hx_object.specs.declared.object.Limit.{Limit}
use Rattle.hx_object.specs.declared.object.Need.{Need}
use Rattle.hx_object.specs.declared.object.Usage.{Usage}
use Rattle.hx_object.specs.declared.object.ObjectFault.{ObjectFault}
use Rattle.hx_object.specs.declared.object.ObjectFault.TheVariants.{BadName, BadLabel, TooManyLabels, TooLarge}
use Rattle.hx_object.specs.declared.object.Payload.{Payload}
use Rattle.hx_object.specs.declared.object.Payload.TheVariants.{Namespace as NamespaceOf, Config, Hierarchy, Anchor, Quota, Plain}

-- ---- names and labels

-- the kind asks for no namespace, or the namespace is a DNS label
abbrev pub has_legal_namespace : Id → Bool
has_legal_namespace id = is_in_cluster id.kind || is_dns_label id.ns

-- the namespace is legal, and the name is one of the kind
unfoldable pub has_legal_names : Id → Bool
has_legal_names id = has_legal_namespace id && is_name_of id.kind id.name

abbrev pub is_legal_label : List ℕ × List ℕ → Bool
is_legal_label pair = is_label_key pair.0 && is_label_value pair.1

abbrev pub is_legal_annotation : List ℕ × List ℕ → Bool
is_legal_annotation pair = is_annotation_key pair.0

-- the keys of labels and annotations and the values of labels have their grammar
unfoldable pub has_legal_labels : Object → Bool
has_legal_labels x = list_all is_legal_label x.labels && list_all is_legal_annotation x.annotations

-- ---- faults

abbrev pub most_labels : ℕ
most_labels = 256

-- the first fault
unfoldable pub object_fault : Object → Option ObjectFault
object_fault x =
    if not (has_legal_names x.id) then Some BadName
    else (if not (has_legal_labels x) then Some BadLabel
    else (if nat_lt most_labels (length (counted x.labels)) then Some TooManyLabels
    else (if nat_lt greatest_size (size_of x) then Some TooLarge else None)))

-- ---- legal objects

-- the kept text of a plain kind: a JSON object without floats and without the common members, compact, its members in order
pub record IsPlain (kind : Kind) (members : List ℕ) (need : Need) : Type 0 where
  pub whole : Members
  pub text : members ≡ compact_text (object whole)
  pub canonical : IsCanonical (object whole)
  pub shallow : depth (object whole) ≤ max_depth
  pub own : (get_member (codes "apiVersion") whole ≡ None) × (get_member (codes "kind") whole ≡ None) × (get_member (codes "metadata") whole ≡ None)
  pub says : need ≡ need_of kind whole

-- a limit's amount is what its text says
abbrev pub IsLimit : Limit → Type 0
IsLimit limit = quantity_of limit.written ≡ Ok limit.amount

-- a usage's amounts are ones that are counted
abbrev pub IsUsage : Usage → Type 0
IsUsage usage = (usage.hard < 2 ^ 64) × (usage.used < 2 ^ 128)

-- the payload is one of the kind. Limits and usages stand in order of their names
abbrev pub IsPayloadOf : Kind → Payload → Type 0
IsPayloadOf kind (NamespaceOf terminating) = kind ≡ Namespace
IsPayloadOf kind (Config entries) = kind ≡ HncConfiguration
IsPayloadOf kind (Hierarchy parent cascade children conditions) = (kind ≡ HierarchyConfiguration) × ((parent ≡ Some []) → ⊥)
IsPayloadOf kind (Anchor status) = kind ≡ SubnamespaceAnchor
IsPayloadOf kind (Quota hard status) =
    (kind ≡ HierarchicalResourceQuota) × (has_ascending_keys (map limit_pair hard) ≡ true) × AllByRecursion IsLimit hard × (has_ascending_keys (map hard_pair status) ≡ true) × AllByRecursion IsUsage status
IsPayloadOf kind (Plain members need) = (is_plain kind ≡ true) × IsPlain kind members need

-- an object without fault, whose payload is one of its kind, and that lies in a namespace exactly where its kind asks for one
pub record IsLegal (x : Object) : Type 0 where
  pub sound : object_fault x ≡ None
  pub home : is_in_cluster x.id.kind ≡ true → x.id.ns ≡ []
  pub payload : IsPayloadOf x.id.kind x.payload
