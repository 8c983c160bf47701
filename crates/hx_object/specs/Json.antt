-- Objects as JSON values, and their compact texts.
--     own_members              the members beside `apiVersion`, `kind` and `metadata`
--     specified_members        those of them that a request gives: all but `status`
--     object_data, object_text the whole object
-- Members stand in byte order of their names.
use Rattle.std.specs.Prelude.{ℕ, Bool, true, false, List, [], ◌∷◌, map, codes, Option, Some, None}
use Rattle.std.specs.Fmt.{decimal}
use Rattle.serde_json.specs.Data.{Data, boolean, string, array, object, Items, no_items, item, Members, no_members, member, put}
use Rattle.serde_json.specs.Read.{read}
use Rattle.serde_json.specs.Written.{compact_text}
use Rattle.hx_object.specs.Kinds.{name_of, api_version_of}
use Rattle.hx_object.specs.Quantities.{quantity_text}
use Rattle.hx_object.specs.declared.object.Object.{Object}
use Rattle.hx_object.specs.declared.object.Payload.{Payload}
use Rattle.hx_object.specs.declared.object.Payload.TheVariants.{Namespace, Config, Hierarchy, Anchor, Quota, Plain}
use Rattle.hx_object.specs.declared.object.ModeEntry.{ModeEntry}
use Rattle.hx_object.specs.declared.object.Limit.{Limit}
use Rattle.hx_object.specs.declared.object.Usage.{Usage}
use Rattle.hx_object.specs.declared.object.Mode.{Mode}
use Rattle.hx_object.specs.declared.object.Mode.TheVariants.{Propagate, AllowPropagate, Remove, Ignore}
use Rattle.hx_object.specs.declared.object.Condition.{Condition}
use Rattle.hx_object.specs.declared.object.Condition.TheVariants.{InCycle, ParentMissing, IllegalParent, Ancestor, AnchorMissing}
use Rattle.hx_object.specs.declared.object.AnchorStatus.{AnchorStatus}
use Rattle.hx_object.specs.declared.object.AnchorStatus.TheVariants.{Missing, Ok, Conflict, Forbidden}

-- ---- parts

-- pairs of texts as members
abbrev pub pairs_members : List (List ℕ × List ℕ) → Members
pairs_members [] = no_members
pairs_members (pair ∷ pairs) = member pair.0 (string pair.1) (pairs_members pairs)

-- an object under a name, and then the rest; an empty object is left out
abbrev pub unless_empty : List ℕ → Members → Members → Members
unless_empty name no_members rest = rest
unless_empty name (member k d ms) rest = member name (object (member k d ms)) rest

-- a list under a name, and then the rest; an empty list is left out
abbrev pub unless_none : List ℕ → Items → Members → Members
unless_none name no_items rest = rest
unless_none name (item d ds) rest = member name (array (item d ds)) rest

-- a text under a name, and then the rest; an empty text is left out
abbrev pub unless_blank : List ℕ → List ℕ → Members → Members
unless_blank name [] rest = rest
unless_blank name (byte ∷ text) rest = member name (string (byte ∷ text)) rest

-- a text under a name, where there is one
abbrev pub if_there : List ℕ → Option (List ℕ) → Members → Members
if_there name None rest = rest
if_there name (Some text) rest = member name (string text) rest

-- `true` under a name, where it holds
abbrev pub if_true : List ℕ → Bool → Members → Members
if_true name false rest = rest
if_true name true rest = member name (boolean true) rest

abbrev pub texts_items : List (List ℕ) → Items
texts_items [] = no_items
texts_items (text ∷ texts) = item (string text) (texts_items texts)

-- ---- objects

-- the metadata; objects that lie in no namespace have no `namespace`
abbrev pub metadata_of : Object → Members
metadata_of x =
    unless_empty (codes "annotations") (pairs_members x.annotations)
    (unless_empty (codes "labels") (pairs_members x.labels)
    (member (codes "name") (string x.id.name) (unless_blank (codes "namespace") x.id.ns (member (codes "resourceVersion") (string (decimal x.version)) no_members))))

abbrev pub phase_of : Bool → List ℕ
phase_of true = codes "Terminating"
phase_of false = codes "Active"

abbrev pub mode_text : Mode → List ℕ
mode_text Propagate = codes "Propagate"
mode_text AllowPropagate = codes "AllowPropagate"
mode_text Remove = codes "Remove"
mode_text Ignore = codes "Ignore"

abbrev pub entry_data : ModeEntry → Data
entry_data e = object (member (codes "group") (string e.group) (member (codes "mode") (string (mode_text e.mode)) (member (codes "resource") (string e.resource) no_members)))

abbrev pub entries_items : List ModeEntry → Items
entries_items [] = no_items
entries_items (e ∷ es) = item (entry_data e) (entries_items es)

-- the reason of a condition
abbrev pub reason_text : Condition → List ℕ
reason_text InCycle = codes "InCycle"
reason_text ParentMissing = codes "ParentMissing"
reason_text IllegalParent = codes "IllegalParent"
reason_text Ancestor = codes "AncestorHaltActivities"
reason_text AnchorMissing = codes "SubnamespaceAnchorMissing"

-- the type of a condition: all but the last one halt the namespace's activities
abbrev pub type_text : Condition → List ℕ
type_text AnchorMissing = codes "BadConfiguration"
type_text _ = codes "ActivitiesHalted"

abbrev pub message_text : Condition → List ℕ
message_text InCycle = codes "the namespace is its own ancestor"
message_text ParentMissing = codes "the parent does not exist"
message_text IllegalParent = codes "the parent is excluded"
message_text Ancestor = codes "an ancestor is halted"
message_text AnchorMissing = codes "the parent has no anchor of this name"

abbrev pub condition_data : Condition → Data
condition_data c =
    object (member (codes "message") (string (message_text c)) (member (codes "reason") (string (reason_text c)) (member (codes "status") (string (codes "True")) (member (codes "type") (string (type_text c)) no_members))))

abbrev pub conditions_items : List Condition → Items
conditions_items [] = no_items
conditions_items (c ∷ cs) = item (condition_data c) (conditions_items cs)

abbrev pub anchor_text : AnchorStatus → List ℕ
anchor_text Missing = codes "Missing"
anchor_text Ok = codes "Ok"
anchor_text Conflict = codes "Conflict"
anchor_text Forbidden = codes "Forbidden"

-- a limit's resource and its written text
abbrev pub limit_pair : Limit → List ℕ × List ℕ
limit_pair limit = (limit.resource, limit.written)

-- the written limits under their resources
abbrev pub limits_members : List Limit → Members
limits_members limits = pairs_members (map limit_pair limits)

-- a resource and its limit, as it is reported
abbrev pub hard_pair : Usage → List ℕ × List ℕ
hard_pair usage = (usage.resource, quantity_text usage.hard)

-- a resource and what is used of it
abbrev pub used_pair : Usage → List ℕ × List ℕ
used_pair usage = (usage.resource, quantity_text usage.used)

-- what is reported of a quota
abbrev pub quota_status : List Usage → Members
quota_status usages = unless_empty (codes "hard") (pairs_members (map hard_pair usages)) (unless_empty (codes "used") (pairs_members (map used_pair usages)) no_members)

-- what is specified of a HierarchyConfiguration
abbrev pub hierarchy_spec : Option (List ℕ) → Bool → Members
hierarchy_spec parent cascade = if_true (codes "allowCascadingDeletion") cascade (if_there (codes "parent") parent no_members)

-- what is reported of one
abbrev pub hierarchy_status : List (List ℕ) → List Condition → Members
hierarchy_status children conditions = unless_none (codes "children") (texts_items children) (unless_none (codes "conditions") (conditions_items conditions) no_members)

-- the members of a value that is an object
abbrev pub members_in : Option Data → Members
members_in (Some (object ms)) = ms
members_in _ = no_members

-- the members that a request gives beside `apiVersion`, `kind` and `metadata`
abbrev pub specified_members : Payload → Members
specified_members (Namespace terminating) = no_members
specified_members (Config entries) = member (codes "spec") (object (member (codes "resources") (array (entries_items entries)) no_members)) no_members
specified_members (Hierarchy parent cascade children conditions) = member (codes "spec") (object (hierarchy_spec parent cascade)) no_members
specified_members (Anchor status) = no_members
specified_members (Quota hard status) = member (codes "spec") (object (member (codes "hard") (object (limits_members hard)) no_members)) no_members
specified_members (Plain members need) = members_in (read members)

-- the members beside `apiVersion`, `kind` and `metadata`
abbrev pub own_members : Payload → Members
own_members (Namespace terminating) = member (codes "status") (object (member (codes "phase") (string (phase_of terminating)) no_members)) no_members
own_members (Config entries) = specified_members (Config entries)
own_members (Hierarchy parent cascade children conditions) =
    member (codes "spec") (object (hierarchy_spec parent cascade)) (unless_empty (codes "status") (hierarchy_status children conditions) no_members)
own_members (Anchor None) = no_members
own_members (Anchor (Some status)) = member (codes "status") (object (member (codes "status") (string (anchor_text status)) no_members)) no_members
own_members (Quota hard status) =
    member (codes "spec") (object (member (codes "hard") (object (limits_members hard)) no_members)) (unless_empty (codes "status") (quota_status status) no_members)
own_members (Plain members need) = specified_members (Plain members need)

-- an object
abbrev pub object_data : Object → Data
object_data x =
    object (put (codes "apiVersion") (string (api_version_of x.id.kind)) (put (codes "kind") (string (name_of x.id.kind)) (put (codes "metadata") (object (metadata_of x)) (own_members x.payload))))

-- the text of an object, which is also the body of its row
unfoldable pub object_text : Object → List ℕ
object_text x = compact_text (object_data x)
