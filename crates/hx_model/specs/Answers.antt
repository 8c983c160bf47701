-- What is answered to an ask, and the state that it leaves.
--     since_refusal     the refusal because the events after a version aren't there
--     place_refusal     the refusal for want of the object or its namespace, or because the object is there
--     version_refusal   the refusal because the object has another version than the one that is expected
--     rule_refusal      the refusal by the first rule of admission that is broken
--     quota_refusal     the refusal by the quotas that hold for what is written
--     limit_refusals    the refusals by the limits, in their order
--     refusal_of        the first refusal that holds
--     writes_of         what an ask changes where nothing refuses it
--     selected          the objects of a list, in order
--     answer_to         the answer and the next state. A refusal and a read leave the state
use Rattle.std.specs.Prelude.{◌≡◌, ◌≢◌, ℕ, ◌+◌, Bool, true, false, not, ◌&&◌, ◌||◌, ◌==◌, nat_lt, nat_le, is_some, is_none, List, [], ◌∷◌, filter, map, Option, Some, None, if◌then◌else◌, codes, option_map, option_and_then}
use Rattle.std.specs.Option.{option_map_or}
use Rattle.hx_object.specs.Kinds.{is_in_cluster}
use Rattle.hx_object.specs.contracts.object.ObjectPartialEq.TheImpl as object_eq
use Rattle.hx_object.specs.declared.kind.Kind.{Kind}
use Rattle.hx_object.specs.declared.kind.Kind.TheVariants.{Namespace}
use Rattle.hx_object.specs.declared.object.Id.{Id}
use Rattle.hx_object.specs.declared.object.Object.{Object}
use Rattle.hx_object.specs.declared.object.Payload.{Payload}
use Rattle.hx_object.specs.declared.object.Payload.TheVariants.{Namespace as NamespaceOf, Hierarchy, Anchor, Quota}
use Rattle.hx_select.specs.Selectors.{selects}
use Rattle.hx_select.specs.declared.selector.Selector.{Selector}
use Rattle.hx_model.specs.declared.ask.Ask.{Ask}
use Rattle.hx_model.specs.declared.ask.Ask.TheVariants.{Get, List as ListOf, Create, Replace, Delete, Document as DocumentOf, Events as EventsSince}
use Rattle.hx_model.specs.declared.ask.Answer.{Answer}
use Rattle.hx_model.specs.declared.ask.Answer.TheVariants.{One, Many, Deleted, Document as Told, Events as Happened, Refused}
use Rattle.hx_model.specs.declared.fields.Fields.{Fields}
use Rattle.hx_model.specs.declared.refusal.Refusal.{Refusal}
use Rattle.hx_model.specs.declared.refusal.Refusal.TheVariants.{BadQuery, NotFound, Exists, OtherVersion, Expired, Broken}
use Rattle.hx_model.specs.declared.rule.Rule.TheVariants.{L1, L2, L3, L4}
use Rattle.hx_model.specs.declared.key.Write.{Write}
use Rattle.hx_model.specs.declared.key.Write.TheVariants.{Put, Cut}
use Rattle.hx_model.specs.First.{so, first}
use Rattle.hx_model.specs.Limits.{is_namespace, is_anchor, is_named, counts, names_in, objects_in, bytes_in, most_names, most_objects, most_bytes, greatest_version}
use Rattle.hx_model.specs.Cases.{Case, Family}
use Rattle.hx_model.specs.Denials.{refusal_by}
use Rattle.hx_model.specs.Fields.{has_fields}
use Rattle.hx_model.specs.Conflicts.{with_written, makes_conflict}
use Rattle.hx_model.specs.Modes.{config_id}
use Rattle.hx_model.specs.Quotas.{refused_by_quotas}
use Rattle.hx_model.specs.Rules.{rules}
use Rattle.hx_model.specs.Subnamespaces.{is_anchored, is_owned_by, is_reached, has_followers, has_children, cascades}
use Rattle.hx_model.specs.Windows.{events_since}
use Rattle.hx_model.specs.Tree.{forest_of, namespaces_in, is_terminating}
pub use Rattle.hx_model.specs.State.{is_listed}
use Rattle.hx_model.specs.State.{State, Objects, object_at, namespace_id, home_in, with_version, after_writes, state_after}

-- ---- what an ask changes

-- a PUT keeps the status that is reported
abbrev pub with_status : Payload → Payload → Payload
with_status (NamespaceOf terminating) (NamespaceOf _) = NamespaceOf terminating
with_status (Hierarchy _ _ children conditions) (Hierarchy parent cascade _ _) = Hierarchy parent cascade children conditions
with_status (Anchor status) (Anchor _) = Anchor status
with_status (Quota _ status) (Quota hard _) = Quota hard status
with_status old new = new

-- the object that a PUT gives in the place of another, but for its version
abbrev pub replaced_by : Object → Object → Object
replaced_by old x = record x { payload = with_status old.payload x.payload; version = old.version }

-- the test of two objects that code has: they are equal
unfoldable pub same_object : Object → Object → Bool
same_object = (object_eq.ghosts).eq

-- a PUT writes where the object changes
abbrev pub replacing : Option Object → Object → ℕ → List Write
replacing None x version = []
replacing (Some old) x version = if same_object (replaced_by old x) old then [] else Put (with_version (replaced_by old x) version) ∷ []

-- a namespace on its way out
abbrev pub ended : ℕ → Object → Object
ended version x = record x { payload = NamespaceOf true; version = version }

-- a namespace goes with n, and isn't on its way out yet
abbrev pub begins_to_leave : State → List ℕ → Object → Bool
begins_to_leave s n x = not (is_terminating x.payload) && is_reached s n x.id.name

-- those that go with n are on their way out from now on
abbrev pub ending : State → List ℕ → List Write
ending s n = map (λ x. Put (ended (s.last + 1) x)) (filter (begins_to_leave s n) (namespaces_in s.objects))

-- the subnamespace that an anchor asked for goes with the anchor, where it is one of the anchor's namespace
abbrev pub owns_named : State → Id → Bool
owns_named s id = option_map_or (is_owned_by id.ns) (object_at s.objects (namespace_id id.name)) false

-- a namespace is on its way out
abbrev pub is_ended : Option Object → Bool
is_ended found = option_map_or (λ (x : Object). is_terminating x.payload) found false

-- What a DELETE changes. A namespace begins to leave, and all that go with it, unless it does already; it is removed once nothing lies in it. An anchor goes at once
abbrev pub deleting : State → Id → Bool → List Write
deleting s id skip =
    if is_namespace id.kind then (if is_ended (object_at s.objects id) then [] else ending s id.name) else (
    if is_anchor id.kind && (not skip && owns_named s id) then Cut id ∷ ending s id.name else Cut id ∷ [])

-- what an ask changes. Every object that it puts has the new version
abbrev pub writes_of : State → Ask → List Write
writes_of s (Get id) = []
writes_of s (ListOf kind ns selector fields) = []
writes_of s (Create x skip) = Put (with_version x (s.last + 1)) ∷ []
writes_of s (Replace x expected skip) = replacing (object_at s.objects x.id) x (s.last + 1)
writes_of s (Delete id skip) = deleting s id skip
writes_of s (DocumentOf document) = []
writes_of s (EventsSince version) = []

-- ---- refusals

abbrev pub not_found : Id → Refusal
not_found id = NotFound id.kind id.name

abbrev pub already_there : Id → Refusal
already_there id = Exists id.kind id.name

-- the namespace of an identity isn't there
abbrev pub lacks_namespace : State → Id → Bool
lacks_namespace s id = not (is_in_cluster id.kind) && is_none (home_in s.objects id)

-- no state of this version was, or not all of the events after it are kept
abbrev pub since_refusal : State → ℕ → Option Refusal
since_refusal s version = first (so (nat_lt s.last version) (BadQuery (codes "since")) ∷ so (nat_lt version s.window.floor) (Expired s.window.floor) ∷ [])

-- the object or its namespace isn't there, or the object is there already; or events aren't there
abbrev pub place_refusal : State → Ask → Option Refusal
place_refusal s (Get id) = so (is_none (object_at s.objects id)) (not_found id)
place_refusal s (ListOf kind ns selector fields) = None
place_refusal s (Create x skip) = first (so (lacks_namespace s x.id) (NotFound Namespace x.id.ns) ∷ so (is_some (object_at s.objects x.id)) (already_there x.id) ∷ [])
place_refusal s (Replace x expected skip) = so (is_none (object_at s.objects x.id)) (not_found x.id)
place_refusal s (Delete id skip) = so (is_none (object_at s.objects id)) (not_found id)
place_refusal s (DocumentOf document) = None
place_refusal s (EventsSince version) = since_refusal s version

-- an object has another version than the one that is expected
abbrev pub other_version : Option ℕ → Option Object → Option Refusal
other_version (Some wanted) (Some x) = so (not (x.version == wanted)) (OtherVersion x.id.kind x.id.name x.version)
other_version _ _ = None

abbrev pub version_refusal : State → Ask → Option Refusal
version_refusal s (Replace x expected skip) = other_version expected (object_at s.objects x.id)
version_refusal s _ = None

-- what the rules on removals and on anchors look at besides
abbrev pub family_of : State → List ℕ → Family
family_of s n = record {
  named = object_at s.objects (namespace_id n);
  anchored = option_map_or (is_anchored s.objects) (object_at s.objects (namespace_id n)) false;
  has_children = has_children (forest_of s) n;
  has_followers = has_followers s n;
  cascades = cascades s n;
}

-- what the rules look at, by the identity, what is there and what is given
abbrev pub case_at : State → Id → Option Object → Option Object → Bool → Case
case_at s id old new skip = record { id = id; old = old; new = new; home = home_in s.objects id; hnc_config = object_at s.objects config_id; conflict = makes_conflict s (with_written s id new); family = family_of s id.name; tree = forest_of s; config = s.config; skip = skip }

-- the case of a write or a removal
abbrev pub case_of : State → Ask → Option Case
case_of s (Create x skip) = Some (case_at s x.id None (Some x) skip)
case_of s (Replace x expected skip) = Some (case_at s x.id (object_at s.objects x.id) (Some x) skip)
case_of s (Delete id skip) = Some (case_at s id (object_at s.objects id) None skip)
case_of s _ = None

-- the first rule of admission that is broken
abbrev pub rule_refusal : State → Ask → Option Refusal
rule_refusal s ask = option_and_then (λ c. option_map (refusal_by c.id) (first (rules c))) (case_of s ask)

-- the quotas that hold for what is written refuse it
abbrev pub quota_refusal : State → Ask → Option Refusal
quota_refusal s (Create x skip) = refused_by_quotas s None x
quota_refusal s (Replace x expected skip) = refused_by_quotas s (object_at s.objects x.id) x
quota_refusal s _ = None

-- a POST brings a name that no namespace or anchor has
abbrev pub brings_name : State → Ask → Bool
brings_name s (Create x skip) = (is_namespace x.id.kind || is_anchor x.id.kind) && not (is_named s.objects x.id.name)
brings_name s _ = false

-- a POST brings an object that counts
abbrev pub brings_object : Ask → Bool
brings_object (Create x skip) = counts x
brings_object _ = false

-- the sum of sizes rises, and over the limit
abbrev pub exceeds_bytes : Objects → Objects → Bool
exceeds_bytes old new = nat_lt (bytes_in old) (bytes_in new) && nat_lt most_bytes (bytes_in new)

-- something is written
abbrev pub is_some_write : List Write → Bool
is_some_write [] = false
is_some_write (write ∷ writes) = true

-- a limit would be passed
abbrev pub limit_refusals : State → Ask → List (Option Refusal)
limit_refusals s ask =
    so (brings_name s ask && nat_le most_names (names_in s.objects)) (Broken L1)
    ∷ so (brings_object ask && nat_le most_objects (objects_in s.objects)) (Broken L2)
    ∷ so (exceeds_bytes s.objects (after_writes (writes_of s ask) s.objects)) (Broken L3)
    ∷ so (is_some_write (writes_of s ask) && nat_le greatest_version s.last) (Broken L4)
    ∷ []

-- the first refusal that holds, in their order
abbrev pub refusal_of : State → Ask → Option Refusal
refusal_of s ask = first (place_refusal s ask ∷ version_refusal s ask ∷ rule_refusal s ask ∷ quota_refusal s ask ∷ limit_refusals s ask)

-- ---- answers

-- the objects of a list, in order: those of its kind and namespace whose labels the selector holds for, and which have the fields
abbrev pub selected : Kind → Option (List ℕ) → Selector → Fields → Objects → Objects
selected kind ns selector fields objects = filter (λ (x : Object). has_fields fields x.id) (filter (λ (x : Object). selects selector x.labels) (filter (is_listed kind ns) objects))

-- the object that is found
abbrev pub answer_found : Option Object → Bool → Id → Answer
answer_found None fresh id = Refused (not_found id)
answer_found (Some x) fresh id = One x fresh

-- the answer of a success, by the state before it and the one after
abbrev pub success : State → State → Ask → Answer
success s t (Get id) = answer_found (object_at s.objects id) false id
success s t (ListOf kind ns selector fields) = Many kind (selected kind ns selector fields s.objects) s.last
success s t (Create x skip) = answer_found (object_at t.objects x.id) true x.id
success s t (Replace x expected skip) = answer_found (object_at t.objects x.id) false x.id
success s t (Delete id skip) = Deleted t.last
success s t (DocumentOf document) = Told document
success s t (EventsSince version) = Happened (events_since version s.window.events) s.last

abbrev pub answer_by : State → Ask → Option Refusal → Answer × State
answer_by s ask (Some refusal) = (Refused refusal, s)
answer_by s ask None = (success s (state_after s (writes_of s ask)) ask, state_after s (writes_of s ask))

-- the answer, and the next state
abbrev pub answer_to : State → Ask → Answer × State
answer_to s ask = answer_by s ask (refusal_of s ask)

-- the ask would change an object
abbrev pub Mutates : State → Ask → Type 0
Mutates s ask = (refusal_of s ask ≡ None) × (writes_of s ask ≢ [])
