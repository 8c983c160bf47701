-- Texts of objects, lists and refusals, each written out by hand.
use Rattle.std.specs.Prelude.{codes}
use Rattle.std.proofs.Common.{◌≡◌, ◌^◌, ℕ, true, false, List, [], ◌∷◌, Some, None, option_map, refl}
use Rattle.std.specs.Fmt.{digits}
use Rattle.serde_json.specs.Data.{string, object, no_members, member}
use Rattle.serde_json.specs.Read.{read}
use Rattle.serde_json.proofs.OnLiterals.{serde_json_on_literals}
use Rattle.hx_object.specs.Json.{object_text}
use Rattle.hx_object.specs.Quantities.{factor_of, quantity_of, quantity_text}
use Rattle.hx_object.specs.declared.kind.Kind.{Kind}
use Rattle.hx_object.specs.declared.kind.Kind.TheVariants.{Namespace, HncConfiguration, HierarchyConfiguration, SubnamespaceAnchor, HierarchicalResourceQuota, Role, ConfigMap}
use Rattle.hx_object.specs.declared.object.Object.{Object}
use Rattle.hx_object.specs.declared.object.Payload.{Payload}
use Rattle.hx_object.specs.declared.object.Payload.TheVariants.{Namespace as NamespaceOf, Config, Hierarchy, Anchor, Quota, Plain}
use Rattle.hx_object.specs.declared.object.Mode.TheVariants.{Remove}
use Rattle.hx_object.specs.declared.object.AnchorStatus.TheVariants.{Ok}
use Rattle.hx_object.specs.declared.object.Condition.TheVariants.{ParentMissing, Ancestor, AnchorMissing}
use Rattle.hx_object.specs.declared.object.Need.{Need}
use Rattle.hx_model.specs.Json.{list_text}
use Rattle.hx_model.specs.Replies.{status_text, message_about}
use Rattle.hx_model.specs.Texts.{key_text, stored_entry}
use Rattle.hx_model.specs.declared.refusal.Refusal.TheVariants.{NotFound}
use Rattle.hx_quantity.specs.Printed.{printed_amount}
use Rattle.hx_json.specs.Rows.{said_object, usages_said, with_status}

-- an object without labels and annotations
abbrev bare : Kind → List ℕ → List ℕ → Payload → Object
bare kind ns name payload = record { id = record { kind = kind; ns = ns; name = name }; labels = []; annotations = []; payload = payload; version = 7 }

abbrev nothing : Need
nothing = record { finished = false; token = false; storage = 0; containers = [] }

abbrev tree : Payload
tree = Hierarchy (Some (codes "top")) true (codes "low" ∷ []) (Ancestor ∷ [])

pub text_of_tree : object_text (bare HierarchyConfiguration (codes "mid") (codes "hierarchy") tree) ≡ codes "{\"apiVersion\":\"hnc.x-k8s.io/v1alpha2\",\"kind\":\"HierarchyConfiguration\",\"metadata\":{\"name\":\"hierarchy\",\"namespace\":\"mid\",\"resourceVersion\":\"7\"},\"spec\":{\"allowCascadingDeletion\":true,\"parent\":\"top\"},\"status\":{\"children\":[\"low\"],\"conditions\":[{\"message\":\"an ancestor is halted\",\"reason\":\"AncestorHaltActivities\",\"status\":\"True\",\"type\":\"ActivitiesHalted\"}]}}"
unfolding object_text digits serde_json_on_literals
text_of_tree = refl

-- the row of a namespace with two children and two conditions: its key, its version and its text
abbrev halted : Object
halted = record {
  id = record { kind = HierarchyConfiguration; ns = codes "x"; name = codes "hierarchy" };
  labels = [];
  annotations = [];
  payload = Hierarchy None false (codes "a" ∷ codes "b" ∷ []) (ParentMissing ∷ AnchorMissing ∷ []);
  version = 4;
}

abbrev halted_text : List ℕ
halted_text = codes "{\"apiVersion\":\"hnc.x-k8s.io/v1alpha2\",\"kind\":\"HierarchyConfiguration\",\"metadata\":{\"name\":\"hierarchy\",\"namespace\":\"x\",\"resourceVersion\":\"4\"},\"spec\":{},\"status\":{\"children\":[\"a\",\"b\"],\"conditions\":[{\"message\":\"the parent does not exist\",\"reason\":\"ParentMissing\",\"status\":\"True\",\"type\":\"ActivitiesHalted\"},{\"message\":\"the parent has no anchor of this name\",\"reason\":\"SubnamespaceAnchorMissing\",\"status\":\"True\",\"type\":\"BadConfiguration\"}]}}"

row_of_halted : stored_entry halted ≡ (codes "03/x/hierarchy", (4, halted_text))
unfolding key_text object_text digits serde_json_on_literals
row_of_halted = refl

-- what is read of that text
halted_back : option_map (λ d. with_status d (said_object halted.id 4 d)) (read halted_text) ≡ Some halted
unfolding serde_json_on_literals
halted_back = refl

pub text_of_root : object_text (bare HierarchyConfiguration (codes "top") (codes "hierarchy") (Hierarchy None false [] [])) ≡ codes "{\"apiVersion\":\"hnc.x-k8s.io/v1alpha2\",\"kind\":\"HierarchyConfiguration\",\"metadata\":{\"name\":\"hierarchy\",\"namespace\":\"top\",\"resourceVersion\":\"7\"},\"spec\":{}}"
unfolding object_text digits serde_json_on_literals
text_of_root = refl

pub text_of_config : object_text (bare HncConfiguration [] (codes "config") (Config (record { group = codes "apps"; resource = codes "things"; mode = Remove } ∷ []))) ≡ codes "{\"apiVersion\":\"hnc.x-k8s.io/v1alpha2\",\"kind\":\"HNCConfiguration\",\"metadata\":{\"name\":\"config\",\"resourceVersion\":\"7\"},\"spec\":{\"resources\":[{\"group\":\"apps\",\"mode\":\"Remove\",\"resource\":\"things\"}]}}"
unfolding object_text digits serde_json_on_literals
text_of_config = refl

pub text_of_anchor : object_text (bare SubnamespaceAnchor (codes "top") (codes "mid") (Anchor (Some Ok))) ≡ codes "{\"apiVersion\":\"hnc.x-k8s.io/v1alpha2\",\"kind\":\"SubnamespaceAnchor\",\"metadata\":{\"name\":\"mid\",\"namespace\":\"top\",\"resourceVersion\":\"7\"},\"status\":{\"status\":\"Ok\"}}"
unfolding object_text digits serde_json_on_literals
text_of_anchor = refl

-- the limits of a quota, and what is read of them
abbrev quota : Object
quota = bare HierarchicalResourceQuota (codes "top") (codes "q") (Quota (record { resource = codes "cpu"; written = codes "1"; amount = 1000 } ∷ record { resource = codes "pods"; written = codes "3"; amount = 3000 } ∷ []) [])

abbrev quota_text : List ℕ
quota_text = codes "{\"apiVersion\":\"hnc.x-k8s.io/v1alpha2\",\"kind\":\"HierarchicalResourceQuota\",\"metadata\":{\"name\":\"q\",\"namespace\":\"top\",\"resourceVersion\":\"7\"},\"spec\":{\"hard\":{\"cpu\":\"1\",\"pods\":\"3\"}}}"

row_of_quota : stored_entry quota ≡ (codes "05/top/q", (7, quota_text))
unfolding key_text object_text digits serde_json_on_literals
row_of_quota = refl

quota_back : option_map (λ d. with_status d (said_object quota.id 7 d)) (read quota_text) ≡ Some quota
unfolding quantity_of factor_of serde_json_on_literals
quota_back = refl

-- what is reported of it, with amounts past 63 bits
abbrev used_quota : Object
used_quota =
    record quota {
      payload = Quota (record { resource = codes "cpu"; written = codes "1"; amount = 1000 } ∷ record { resource = codes "pods"; written = codes "3"; amount = 3000 } ∷ [])
          (record { resource = codes "cpu"; hard = 1000; used = 1500 } ∷ record { resource = codes "pods"; hard = 3000; used = 2 ^ 127 } ∷ []);
    }

abbrev used_text : List ℕ
used_text =
    codes "{\"apiVersion\":\"hnc.x-k8s.io/v1alpha2\",\"kind\":\"HierarchicalResourceQuota\",\"metadata\":{\"name\":\"q\",\"namespace\":\"top\",\"resourceVersion\":\"7\"},\"spec\":{\"hard\":{\"cpu\":\"1\",\"pods\":\"3\"}},\"status\":{\"hard\":{\"cpu\":\"1\",\"pods\":\"3\"},\"used\":{\"cpu\":\"1500m\",\"pods\":\"170141183460469231731687303715884105728m\"}}}"

row_of_used_quota : stored_entry used_quota ≡ (codes "05/top/q", (7, used_text))
unfolding key_text object_text quantity_text digits serde_json_on_literals
row_of_used_quota = refl

used_quota_back : option_map (λ d. with_status d (said_object used_quota.id 7 d)) (read used_text) ≡ Some used_quota
unfolding quantity_of factor_of printed_amount serde_json_on_literals
used_quota_back = refl

-- parts that disagree: what is used of a name that no limit is reported of isn't read, and what isn't told counts as 0
odd_status : usages_said (object (member (codes "status") (object (member (codes "hard") (object (member (codes "cpu") (string (codes "18446744073709551616m")) (member (codes "pods") (string (codes "3")) no_members)))
    (member (codes "used") (object (member (codes "memory") (string (codes "1")) (member (codes "pods") (string (codes "1.5")) no_members))) no_members))) no_members))
    ≡ record { resource = codes "cpu"; hard = 0; used = 0 } ∷ record { resource = codes "pods"; hard = 3000; used = 0 } ∷ []
unfolding printed_amount
odd_status = refl

abbrev role : Object
role = record { id = record { kind = Role; ns = codes "top"; name = codes "r" }; labels = (codes "app", codes "web") ∷ (codes "tier", []) ∷ []; annotations = []; payload = Plain (codes "{\"rules\":[]}") nothing; version = 12 }

pub text_of_role : object_text role ≡ codes "{\"apiVersion\":\"rbac.authorization.k8s.io/v1\",\"kind\":\"Role\",\"metadata\":{\"labels\":{\"app\":\"web\",\"tier\":\"\"},\"name\":\"r\",\"namespace\":\"top\",\"resourceVersion\":\"12\"},\"rules\":[]}"
unfolding object_text digits serde_json_on_literals
text_of_role = refl

-- a quote in a value, and a member that goes first
abbrev config_map : Object
config_map = record { id = record { kind = ConfigMap; ns = codes "top"; name = codes "m" }; labels = []; annotations = (codes "note", codes "a\"b") ∷ []; payload = Plain (codes "{\"a\":1,\"data\":{}}") nothing; version = 1 }

pub text_of_config_map : object_text config_map ≡ codes "{\"a\":1,\"apiVersion\":\"v1\",\"data\":{},\"kind\":\"ConfigMap\",\"metadata\":{\"annotations\":{\"note\":\"a\\\"b\"},\"name\":\"m\",\"namespace\":\"top\",\"resourceVersion\":\"1\"}}"
unfolding object_text digits serde_json_on_literals
text_of_config_map = refl

pub text_of_list : list_text Namespace (bare Namespace [] (codes "top") (NamespaceOf true) ∷ []) 40 ≡ codes "{\"apiVersion\":\"v1\",\"items\":[{\"apiVersion\":\"v1\",\"kind\":\"Namespace\",\"metadata\":{\"name\":\"top\",\"resourceVersion\":\"7\"},\"status\":{\"phase\":\"Terminating\"}}],\"kind\":\"NamespaceList\",\"metadata\":{\"resourceVersion\":\"40\"}}"
unfolding list_text digits serde_json_on_literals
text_of_list = refl

pub text_of_refusal : status_text (NotFound Role (codes "r")) ≡ codes "{\"apiVersion\":\"v1\",\"code\":404,\"kind\":\"Status\",\"message\":\"roles.rbac.authorization.k8s.io \\\"r\\\" not found\",\"metadata\":{},\"reason\":\"NotFound\",\"status\":\"Failure\"}"
unfolding status_text message_about digits serde_json_on_literals
text_of_refusal = refl
