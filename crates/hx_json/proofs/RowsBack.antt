-- A row of an object, by its parts.
--     row_key, row_text, body_is    its key and its text
--     passed                        what `?` passes on
use Rattle.std.proofs.Common.{◌≡◌, ℕ, List, Result, Ok, Err, sym, subst, ap}
use Rattle.std.specs.Prelude.{IsErrAnd, IsUtf8}
use Rattle.hx_object.specs.Json.{object_text}
use Rattle.hx_object.specs.declared.object.Id.{Id}
use Rattle.hx_object.specs.declared.object.Object.{Object}
use Rattle.hx_model.proofs.Legality.{keyed_legal}
use Rattle.hx_json.specs.Rows.{Gives, IsKeyOf, IsRowOf, IsTextOf}
use Rattle.hx_json.proofs.KeyTexts.{key_utf8}
use Rattle.hx_json.specs.declared.fault.RowFault.{RowFault}
use Rattle.hx_json.specs.declared.fault.RowFault.TheVariants.{NoObject, NoMemory}

-- a fault stands for itself, whatever isn't given
still_gives : {A B : Type 0} (f : RowFault) (a : A) (b : B) → Gives (Err f) a → Gives (Err f) b
still_gives NoObject a b h = h
still_gives NoMemory a b h = tt

pub passed : {A B : Type 0} (r : Result B RowFault) (f : RowFault) (a : A) (b : B) → IsErrAnd r (λ found. found ≡ f) → Gives (Err f) a → Gives r b
passed (Ok y) f a b is h = absurd is
passed {A} {B} (Err e) f a b is h = still_gives e a b (subst (λ f. Gives {A = A} (Err f) a) (sym is) h)

module _ (key : List ℕ) (version : ℕ) (body : List ℕ) (x : Object) (h : IsRowOf key version body x) where
  pub row_key : IsKeyOf key x.id
  row_key = record { is = sym (ap (λ e. e.0) h.is); home = h.served.legal.home; slashless = keyed_legal x h.served.legal }

  pub row_text : (id : Id) → id ≡ x.id → IsTextOf id version body x
  row_text id same = record { served = h.served; id_is = sym same; version_is = ap (λ e. e.1.0) h.is; text_is = sym (ap (λ e. e.1.1) h.is) }

  -- the object of the row has its text
  pub body_is : object_text x ≡ body
  body_is = ap (λ e. e.1.1) h.is

  pub row_key_utf8 : IsUtf8 key
  row_key_utf8 = subst IsUtf8 (ap (λ e. e.0) h.is) (key_utf8 x h.served)
