-- Where the first byte of a value is, by a search of bytes, and that a text may be cut before and behind it.
--     first_at         it is where the search found it
--     first_nowhere    there is none
--     cuts_at          an ASCII byte parts a text
use Rattle.std.proofs.Common.{◌≡◌, ℕ, ◌+◌, ◌<◌, List, length, Option, Some, None, get_or, subst, arith, IsUtf8}
use Rattle.std.proofs.lemmas.Bool.{eqb-true, false_from_ne_true}
use Rattle.std.proofs.lemmas.List.Sums.{position_or_len_is}
use Rattle.std.proofs.lemmas.Str.{IsCharBoundary-before_ascii, IsCharBoundary-after_ascii}
use Rattle.std.specs.List.{position_or_len}
use Rattle.std.specs.Str.{IsCharBoundary}
use Rattle.memchr.specs.Find.{IsFirstByte, is_byte}

-- what the search tells of the text itself
of_text : (b : ℕ) (text bytes : List ℕ) (r o : Option ℕ) → IsFirstByte (is_byte b) bytes r → bytes ≡ text → r ≡ o → IsFirstByte (is_byte b) text o
of_text b text bytes r o first same is = subst (λ (s : Option ℕ). IsFirstByte (is_byte b) text s) is (subst (λ (t : List ℕ). IsFirstByte (is_byte b) t r) same first)

pub first_at : (b : ℕ) (text bytes : List ℕ) (r : Option ℕ) (k : ℕ) → IsFirstByte (is_byte b) bytes r → bytes ≡ text → r ≡ Some k → (position_or_len (is_byte b) text ≡ k) × (k < length text) × (get_or text k 0 ≡ b)
first_at b text bytes r k first same is =
    let at = of_text b text bytes r (Some k) first same is in
    (position_or_len_is (is_byte b) text k 0 (omega (arith, at.0.high)) (λ j below. false_from_ne_true _ (at.0.before j (omega arith) below)) (λ more. at.1), at.0.high, eqb-true (get_or text k 0) b at.1)

pub first_nowhere : (b : ℕ) (text bytes : List ℕ) (r : Option ℕ) → IsFirstByte (is_byte b) bytes r → bytes ≡ text → r ≡ None → position_or_len (is_byte b) text ≡ length text
first_nowhere b text bytes r first same is =
    let none = of_text b text bytes r None first same is in
    position_or_len_is (is_byte b) text (length text) 0 (omega arith) (λ k below. false_from_ne_true _ (none k (omega arith) below)) (λ more. absurd (omega (arith, more)))

pub cuts_at : (b : ℕ) (text : List ℕ) (k : ℕ) → b < 128 → IsUtf8 text → k < length text → get_or text k 0 ≡ b → IsCharBoundary text k × IsCharBoundary text (k + 1)
cuts_at b text k ascii utf8 less at =
    let byte : get_or text k 0 < 128 = omega (arith, at, ascii) in
    (IsCharBoundary-before_ascii text k less byte, IsCharBoundary-after_ascii text k utf8 less byte)
