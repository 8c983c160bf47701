-- What reading a body gives is what the body says, and may be stored.
use Rattle.std.proofs.Common.{◌≡◌, ◌⊎◌, inl, inr, ℕ, List, Bool, true, false, Option, Some, None, Result, Ok, Err, refl, sym, ap, ◌∙◌}
use Rattle.std.specs.Str.{IsUtf8, is_utf8}
use Rattle.std.proofs.lemmas.Str.{IsUtf8-from_is_utf8, is_utf8-from_IsUtf8}
use Rattle.serde_json.specs.Data.{Data}
use Rattle.serde_json.specs.Read.{read}
use Rattle.serde_json.specs.Written.{has_float}
use Rattle.hx_object.specs.Faults.{IsLegal}
use Rattle.hx_object.specs.declared.kind.Kind.{Kind}
use Rattle.hx_object.specs.declared.object.Object.{Object}
use Rattle.hx_object.specs.declared.object.Payload.{Payload}
use Rattle.hx_object.specs.declared.object.Payload.TheVariants.{Namespace, Config, Hierarchy, Anchor, Quota, Plain}
use Rattle.hx_json.specs.Reading.{Target, fault_of}
use Rattle.hx_json.specs.ReadObject.{IsFaultOf, IsReadOf, IsWhole}
use Rattle.hx_json.specs.declared.fault.JsonFault.{JsonFault}
use Rattle.hx_json.specs.declared.fault.JsonFault.TheVariants.{NotJson, NotWhole, WrongKind, MissingMember, WrongType, BadQuantity, WrongPlace, Object as OfObject, NoMemory}
use Rattle.hx_model.specs.Serving.{IsGiven, IsServed, is_given, is_kept}
use Rattle.hx_model.specs.declared.ask.Ask.{Ask}
use Rattle.hx_model.specs.declared.refusal.Refusal.{Refusal}
use Rattle.hx_model.specs.declared.refusal.Refusal.TheVariants as refusal
use Rattle.hx_api.specs.Bodies.{Said, read_body, refusal_of}

pub says : (p : Target) (body : List ℕ) (x : Object) (expected : Option ℕ) → IsReadOf p body x expected → read_body p body ≡ Ok (x, expected)
unfolding read_body
says p body x expected h = rw (is_utf8-from_IsUtf8 body h.whole.0, h.whole.1, h.whole.2, h.sound, h.says, h.expects) refl

-- a body that isn't UTF-8, or that doesn't read
no_json_by : (p : Target) (body : List ℕ) (b : Bool) → is_utf8 body ≡ b → (IsUtf8 body → read body ≡ None) → read_body p body ≡ Err NotJson
unfolding read_body
no_json_by p body true is h = rw (is, h (IsUtf8-from_is_utf8 body is)) refl
no_json_by p body false is h = rw is refl

no_json : (p : Target) (body : List ℕ) → (IsUtf8 body → read body ≡ None) → read_body p body ≡ Err NotJson
no_json p body h = no_json_by p body (is_utf8 body) refl h

no_whole : (p : Target) (body : List ℕ) (d : Data) → IsUtf8 body → read body ≡ Some d → has_float d ≡ true → read_body p body ≡ Err NotWhole
unfolding read_body
no_whole p body d utf8 is float = rw (is_utf8-from_IsUtf8 body utf8, is, float) refl

faulty : (p : Target) (body : List ℕ) (d : Data) (fault : JsonFault) → IsWhole body d → fault_of p d ≡ Some fault → read_body p body ≡ Err fault
unfolding read_body
faulty p body d fault whole is = rw (is_utf8-from_IsUtf8 body whole.0, whole.1, whole.2, is) refl

-- the fault is want of memory, or the body's
pub faults : (p : Target) (body : List ℕ) (fault : JsonFault) → IsFaultOf p body fault → (fault ≡ NoMemory) ⊎ (read_body p body ≡ Err fault)
faults p body NotJson h = inr (no_json p body h)
faults p body NotWhole h = inr (no_whole p body h.0 h.1 h.2 h.3)
faults p body WrongKind h = inr (faulty p body h.0 WrongKind h.1 h.2)
faults p body (MissingMember path) h = inr (faulty p body h.0 (MissingMember path) h.1 h.2)
faults p body (WrongType path) h = inr (faulty p body h.0 (WrongType path) h.1 h.2)
faults p body (BadQuantity path) h = inr (faulty p body h.0 (BadQuantity path) h.1 h.2)
faults p body WrongPlace h = inr (faulty p body h.0 WrongPlace h.1 h.2)
faults p body (OfObject fault) h = inr (faulty p body h.0 (OfObject fault) h.1 h.2)
faults p body NoMemory h = inl refl

-- the refusal of a fault is the request's, where the ask of a body gives refusals so
pub refused : (kind : Kind) (ask : Result Said JsonFault → Result Ask Refusal) (p : Target) (body : List ℕ) (fault : JsonFault) (r : Refusal)
    → ((f : JsonFault) → ask (Err f) ≡ Err (refusal_of kind f)) → r ≡ refusal_of kind fault → IsFaultOf p body fault → (r ≡ refusal.NoMemory) ⊎ (ask (read_body p body) ≡ Err r)
refused kind ask p body fault r gives is h = by (faults p body fault h)
  where
    by : (fault ≡ NoMemory) ⊎ (read_body p body ≡ Err fault) → (r ≡ refusal.NoMemory) ⊎ (ask (read_body p body) ≡ Err r)
    by (inl e) = inl (is ∙ ap (refusal_of kind) e)
    by (inr e) = inr (ap ask e ∙ gives fault ∙ ap Err (sym is))

-- ---- what is stored

given_kept : (payload : Payload) → is_given payload ≡ true → is_kept payload ≡ true
given_kept (Namespace terminating) h = refl
given_kept (Config entries) h = h
given_kept (Hierarchy parent cascade children conditions) h = refl
given_kept (Anchor status) h = refl
given_kept (Quota hard status) h = refl
given_kept (Plain members need) h = refl

-- an object that a request gives may be stored
pub served : (x : Object) → IsLegal x → IsGiven x → IsServed x
served x legal given = record {
  legal = legal;
  kept = record { labels = given.labels; annotations = given.annotations; payload = given_kept x.payload given.payload; typed = given.typed };
}
