-- Stored rows of objects, and what is read of one.
--     IsRowOf key version body x    the row of an object that may be stored
--     IsOnlyOf, HasNoObject         no other object has the row;  no object has it
--     kind_in digits     the kind of this number
--     IsCutAt text a b   the text is cut at its first slash
--     may_lie_in k ns    a key of the kind may name the namespace
--     IsKeyOf key id     the key of an identity whose object may be stored
--     said_object        the object of an identity that a value says
--     children_said d    the children that a value says
--     conditions_said d  the conditions that a value says
--     amount_said, limit_said    the amount that a member says, and that a value says of a limit
--     usages_said d      the usages that a value says
--     reported d p       a payload, with what a value reports of it
--     with_status d x    the same of an object
--     IsUnsound x f      the fault is that of an object
--     IsTextOf id v t x  the text is that of an object that may be stored, of an identity and a version
--     row_fault f        why a row isn't read, by why its body isn't
--     Gives r x          an answer is this value, or want of memory
--     GivesId, GivesTextOf, GivesRow    it is what a key, a text or a row is of, if that is of any
use Rattle.std.specs.Prelude.{◌≡◌, ◌^◌, ℕ, Bool, true, false, not, ◌==◌, ◌||◌, nat_lt, List, [], ◌∷◌, ◌++◌, codes, find, Option, option_and_then, unwrap_or, Result, Ok, Err, IsUtf8, Some, None, if◌then◌else◌}
use Rattle.std.specs.List.{AllByRecursion}
use Rattle.std.specs.Str.{bytes_eq}
use Rattle.serde_json.specs.Data.{Data, Items, no_items, item, Members, no_members, member}
use Rattle.hx_object.specs.Faults.{object_fault}
use Rattle.hx_object.specs.Json.{members_in, object_text}
use Rattle.hx_object.specs.Kinds.{all_kinds, is_in_cluster, number_of}
use Rattle.hx_object.specs.Names.{slash}
pub use Rattle.hx_object.specs.Values.{in_status}
use Rattle.hx_object.specs.declared.kind.Kind.{Kind}
use Rattle.hx_object.specs.declared.object.AnchorStatus.{AnchorStatus}
use Rattle.hx_object.specs.declared.object.AnchorStatus.TheVariants as anchor
use Rattle.hx_object.specs.declared.object.Condition.{Condition}
use Rattle.hx_object.specs.declared.object.Condition.TheVariants as condition
use Rattle.hx_object.specs.declared.object.Id.{Id}
use Rattle.hx_object.specs.declared.object.Object.{Object}
use Rattle.hx_object.specs.declared.object.Payload.{Payload}
use Rattle.hx_object.specs.declared.object.Payload.TheVariants.{Namespace as NamespaceOf, Hierarchy, Anchor, Quota}
use Rattle.hx_object.specs.declared.object.Usage.{Usage}
use Rattle.hx_quantity.specs.Printed.{printed_amount}
use Rattle.hx_model.specs.Serving.{IsServed}
use Rattle.hx_model.specs.Texts.{key_text, stored_entry, two_digits}
use Rattle.hx_json.specs.Reading.{counted_member, is_this, items_in, metadata_in, pairs_in, payload_of, text_in, text_or}
use Rattle.hx_json.specs.declared.fault.JsonFault.{JsonFault}
use Rattle.hx_json.specs.declared.fault.JsonFault.TheVariants as of
use Rattle.hx_json.specs.declared.fault.RowFault.{RowFault}
use Rattle.hx_json.specs.declared.fault.RowFault.TheVariants.{NoObject, NoMemory}

-- the key, the version and the body are the row of an object that may be stored, whose text is UTF-8
pub record IsRowOf (key : List ℕ) (version : ℕ) (body : List ℕ) (x : Object) : Type 0 where
  pub served : IsServed x
  pub text : IsUtf8 body
  pub is : stored_entry x ≡ (key, (version, body))

-- no other object has this row
abbrev pub IsOnlyOf : List ℕ → ℕ → List ℕ → Object → Type 0
IsOnlyOf key version body x = (y : Object) → IsRowOf key version body y → y ≡ x

-- no object that may be stored has this row
abbrev pub HasNoObject : List ℕ → ℕ → List ℕ → Type 0
HasNoObject key version body = (x : Object) → IsRowOf key version body x → ⊥

-- ---- keys

-- the kind whose number these digits are
abbrev pub kind_in : List ℕ → Option Kind
kind_in digits = find (λ kind. bytes_eq digits (two_digits (number_of kind))) all_kinds

-- no byte is a slash
abbrev pub HasNoSlash : List ℕ → Type 0
HasNoSlash bytes = AllByRecursion (λ byte. (byte == slash) ≡ false) bytes

-- what stands in front of the first slash of a text, and what behind it
pub record IsCutAt (text front rest : List ℕ) : Type 0 where
  pub slashless : HasNoSlash front
  pub is : text ≡ front ++ (slash ∷ rest)

-- a key of a kind may name this namespace: no namespace, where the kind lies in none
abbrev pub may_lie_in : Kind → List ℕ → Bool
may_lie_in kind ns = not (is_in_cluster kind) || bytes_eq ns []

-- the key is that of an identity, which has a namespace only where its kind lies in one
pub record IsKeyOf (key : List ℕ) (id : Id) : Type 0 where
  pub is : key ≡ key_text id
  pub home : is_in_cluster id.kind ≡ true → id.ns ≡ []
  pub slashless : HasNoSlash id.ns

-- ---- objects

-- the object of an identity that a value says, with a version
abbrev pub said_object : Id → ℕ → Data → Object
said_object id version d = record {
  id = id;
  labels = pairs_in (counted_member (codes "labels") (metadata_in d));
  annotations = pairs_in (counted_member (codes "annotations") (metadata_in d));
  payload = payload_of id.kind d;
  version = version;
}

-- the phase of a namespace that is on its way out
abbrev pub says_terminating : Data → Bool
says_terminating d = is_this (codes "Terminating") (in_status (codes "phase") d)

-- the status of an anchor that a text names
abbrev pub status_named : List ℕ → Option AnchorStatus
status_named text =
    if bytes_eq text (codes "Missing") then Some anchor.Missing
    else (if bytes_eq text (codes "Ok") then Some anchor.Ok
    else (if bytes_eq text (codes "Conflict") then Some anchor.Conflict
    else (if bytes_eq text (codes "Forbidden") then Some anchor.Forbidden else None)))

-- the status of an anchor, where a value says one
abbrev pub anchor_status : Data → Option AnchorStatus
anchor_status d = option_and_then status_named (text_in (in_status (codes "status") d))

-- the texts that items are. An item that is no text counts as an empty one
abbrev pub texts_of : Items → List (List ℕ)
texts_of no_items = []
texts_of (item d ds) = text_or [] (Some d) ∷ texts_of ds

-- the children of a namespace, where a value says some
abbrev pub children_said : Data → List (List ℕ)
children_said d = texts_of (items_in (in_status (codes "children") d))

-- the condition whose reason a text is
abbrev pub condition_named : List ℕ → Option Condition
condition_named text =
    if bytes_eq text (codes "InCycle") then Some condition.InCycle
    else (if bytes_eq text (codes "ParentMissing") then Some condition.ParentMissing
    else (if bytes_eq text (codes "IllegalParent") then Some condition.IllegalParent
    else (if bytes_eq text (codes "AncestorHaltActivities") then Some condition.Ancestor
    else (if bytes_eq text (codes "SubnamespaceAnchorMissing") then Some condition.AnchorMissing else None))))

-- the condition that an item says, by its reason alone
abbrev pub condition_in : Data → Option Condition
condition_in d = option_and_then condition_named (text_in (counted_member (codes "reason") d))

-- a condition, where there is one, and others behind it
abbrev pub in_front : Option Condition → List Condition → List Condition
in_front None conditions = conditions
in_front (Some c) conditions = c ∷ conditions

-- the conditions that items say. An item with another reason is left out
abbrev pub conditions_of : Items → List Condition
conditions_of no_items = []
conditions_of (item d ds) = in_front (condition_in d) (conditions_of ds)

-- the conditions of a namespace, where a value says some
abbrev pub conditions_said : Data → List Condition
conditions_said d = conditions_of (items_in (in_status (codes "conditions") d))

-- the amount that a member says as amounts are printed. A member that isn't such a text says 0
abbrev pub amount_said : Option Data → ℕ
amount_said found = unwrap_or (option_and_then printed_amount (text_in found)) 0

-- the amount of a limit, which 64 bits hold, or 0
abbrev pub limit_said : Data → ℕ
limit_said d = if nat_lt (amount_said (Some d)) (2 ^ 64) then amount_said (Some d) else 0

-- what is reported of a resource: its limit, and what is used of it
abbrev pub usage_of : Option Data → List ℕ → Data → Usage
usage_of used name hard = record { resource = name; hard = limit_said hard; used = amount_said (option_and_then (counted_member name) used) }

-- the same of each limit
abbrev pub usages_of : Option Data → Members → List Usage
usages_of used no_members = []
usages_of used (member name hard ms) = usage_of used name hard ∷ usages_of used ms

-- the usages of a quota, where a value says some: those of the limits that it reports
abbrev pub usages_said : Data → List Usage
usages_said d = usages_of (in_status (codes "used") d) (members_in (in_status (codes "hard") d))

-- a payload, with what a value reports of it, where its kind has something that is reported
abbrev pub reported : Data → Payload → Payload
reported d (NamespaceOf terminating) = NamespaceOf (says_terminating d)
reported d (Hierarchy parent cascade children conditions) = Hierarchy parent cascade (children_said d) (conditions_said d)
reported d (Anchor status) = Anchor (anchor_status d)
reported d (Quota hard status) = Quota hard (usages_said d)
reported d payload = payload

-- the same of an object
abbrev pub with_status : Data → Object → Object
with_status d x = record x { payload = reported d x.payload }

-- the fault is that of an object, or want of memory
abbrev pub IsUnsound : Object → JsonFault → Type 0
IsUnsound x (of.Object fault) = object_fault x ≡ Some fault
IsUnsound x of.NoMemory = Unit {0}
IsUnsound x fault = ⊥

-- the text is that of an object that may be stored, of this identity and this version
pub record IsTextOf (id : Id) (version : ℕ) (text : List ℕ) (x : Object) : Type 0 where
  pub served : IsServed x
  pub id_is : x.id ≡ id
  pub version_is : x.version ≡ version
  pub text_is : text ≡ object_text x

-- ---- answers

-- why a row isn't read, by why its body isn't
abbrev pub row_fault : JsonFault → RowFault
row_fault of.NoMemory = NoMemory
row_fault fault = NoObject

-- the answer is this value, or want of memory
abbrev pub Gives : {A : Type 0} → Result A RowFault → A → Type 0
Gives (Ok found) x = found ≡ x
Gives (Err NoObject) x = ⊥
Gives (Err NoMemory) x = Unit {0}

-- the identity that a key is of, if it is of any
abbrev pub GivesId : List ℕ → Result Id RowFault → Type 0
GivesId key result = (id : Id) → IsKeyOf key id → Gives result id

-- the object that a text is of, if it is of any
abbrev pub GivesTextOf : Id → ℕ → List ℕ → Result Object RowFault → Type 0
GivesTextOf id version text result = (x : Object) → IsTextOf id version text x → Gives result x

-- the object whose row this is, if it is any's
abbrev pub GivesRow : List ℕ → ℕ → List ℕ → Result Object RowFault → Type 0
GivesRow key version body result = (x : Object) → IsRowOf key version body x → Gives result x
