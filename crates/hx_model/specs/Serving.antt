-- What is served so far.
--     is_given         a payload that requests give: no namespace that is on its way out, and nothing that reconcilers report
--     is_kept          a payload that may be stored
--     is_text_or_none  a text, or none
--     has_type         the type of a Secret is a text, where it has one
--     is_typed         the same of what is kept of it
--     IsGiven, IsKept  an object of such a payload, whose type is a text if it has one, and whose labels and annotations are in order
--     IsServed         an object that may be stored
--     IsServedAsk      an ask that a cluster takes
--     IsLegalAnswer    an answer whose objects are legal
use Rattle.std.specs.Prelude.{◌≡◌, Bool, true, false, not, [], Option, Some, None, codes}
use Rattle.std.specs.List.{AllByRecursion, list_all}
use Rattle.std.specs.Option.{option_map_or}
use Rattle.serde_json.specs.Data.{Data, null, string}
use Rattle.serde_json.specs.Find.{get}
use Rattle.serde_json.specs.Read.{read}
use Rattle.hx_object.specs.Faults.{IsLegal}
use Rattle.hx_object.specs.Pairs.{has_ascending_keys}
use Rattle.hx_object.specs.declared.kind.Kind.{Kind}
use Rattle.hx_object.specs.declared.kind.Kind.TheVariants.{Secret}
use Rattle.hx_object.specs.declared.object.Mode.{Mode}
use Rattle.hx_object.specs.declared.object.Mode.TheVariants.{AllowPropagate}
use Rattle.hx_object.specs.declared.object.ModeEntry.{ModeEntry}
use Rattle.hx_object.specs.declared.object.Object.{Object}
use Rattle.hx_object.specs.declared.object.Payload.{Payload}
use Rattle.hx_object.specs.declared.object.Payload.TheVariants.{Namespace as NamespaceOf, Config, Hierarchy, Anchor, Quota, Plain}
use Rattle.hx_model.specs.declared.event.Event.{Event}
use Rattle.hx_model.specs.declared.ask.Ask.{Ask}
use Rattle.hx_model.specs.declared.ask.Ask.TheVariants.{Get, List as ListOf, Create, Replace, Delete, Document as DocumentOf, Events as EventsSince}
use Rattle.hx_model.specs.declared.ask.Answer.{Answer}
use Rattle.hx_model.specs.declared.ask.Answer.TheVariants.{One, Many, Deleted, Document as Told, Events as Happened, Refused}

-- the modes that bodies may name so far
abbrev pub is_given_mode : Mode → Bool
is_given_mode AllowPropagate = false
is_given_mode _ = true

-- A payload that a request gives: no status but that of a namespace that stays, and modes that bodies may name
abbrev pub is_given : Payload → Bool
is_given (NamespaceOf terminating) = not terminating
is_given (Config entries) = list_all (λ (e : ModeEntry). is_given_mode e.mode) entries
is_given (Hierarchy parent cascade [] []) = true
is_given (Hierarchy parent cascade children conditions) = false
is_given (Anchor None) = true
is_given (Anchor status) = false
is_given (Quota hard []) = true
is_given (Quota hard status) = false
is_given (Plain members need) = true

-- A payload that may be stored: modes that bodies may name
abbrev pub is_kept : Payload → Bool
is_kept (Config entries) = list_all (λ (e : ModeEntry). is_given_mode e.mode) entries
is_kept payload = true

-- a text, or none: null counts as none
abbrev pub is_text_or_none : Option Data → Bool
is_text_or_none None = true
is_text_or_none (Some null) = true
is_text_or_none (Some (string text)) = true
is_text_or_none (Some other) = false

-- the type of a Secret is a text, where it has one
abbrev pub has_type : Kind → Data → Bool
has_type Secret d = is_text_or_none (get (codes "type") d)
has_type kind d = true

-- the same of what is kept of it
abbrev pub is_typed : Kind → Payload → Bool
is_typed Secret (Plain members need) = option_map_or (has_type Secret) (read members) true
is_typed kind payload = true

-- such a payload, with labels and annotations in order, and a type that is a text
pub record IsGiven (x : Object) : Type 0 where
  pub labels : has_ascending_keys x.labels ≡ true
  pub annotations : has_ascending_keys x.annotations ≡ true
  pub payload : is_given x.payload ≡ true
  pub typed : is_typed x.id.kind x.payload ≡ true

-- the same of one that may be stored
pub record IsKept (x : Object) : Type 0 where
  pub labels : has_ascending_keys x.labels ≡ true
  pub annotations : has_ascending_keys x.annotations ≡ true
  pub payload : is_kept x.payload ≡ true
  pub typed : is_typed x.id.kind x.payload ≡ true

-- a legal object that may be stored
pub record IsServed (x : Object) : Type 0 where
  pub legal : IsLegal x
  pub kept : IsKept x

-- an object that is to be stored is one that requests give, and has no version yet
abbrev pub IsServedAsk : Ask → Type 0
IsServedAsk (Get id) = Unit {0}
IsServedAsk (ListOf kind ns selector fields) = Unit {0}
IsServedAsk (Create x skip) = IsServed x × (is_given x.payload ≡ true) × (x.version ≡ 0)
IsServedAsk (Replace x expected skip) = IsServed x × (is_given x.payload ≡ true) × (x.version ≡ 0)
IsServedAsk (Delete id skip) = Unit {0}
IsServedAsk (DocumentOf document) = Unit {0}
IsServedAsk (EventsSince version) = Unit {0}

-- the objects of an answer are legal
abbrev pub IsLegalAnswer : Answer → Type 0
IsLegalAnswer (One x fresh) = IsLegal x
IsLegalAnswer (Many kind objects version) = AllByRecursion IsLegal objects
IsLegalAnswer (Deleted version) = Unit {0}
IsLegalAnswer (Told document) = Unit {0}
IsLegalAnswer (Happened events version) = AllByRecursion (λ (e : Event). IsLegal e.object) events
IsLegalAnswer (Refused refusal) = Unit {0}
