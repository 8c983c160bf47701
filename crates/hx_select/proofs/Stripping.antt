-- Pieces between commas, and the spaces around them.
use Rattle.std.proofs.Common.{◌≡◌, ◌≢◌, ℕ, suc, ◌+◌, ◌<◌, Bool, true, false, cond, not, List, [], ◌∷◌, ◌++◌, length, map, reverse, Option, Some, None, refl, sym, ap, ◌∙◌, arith}
use mathlib.Core.List.{reverse-cons}
use Rattle.std.specs.Prelude.{MatchOption}
use Rattle.std.specs.Borrow.{Bor}
use Rattle.std.specs.List.{after_first, before_first, onto_first, position_or_len, slice_split}
use Rattle.std.proofs.lemmas.List.{reverse-reverse}
use Rattle.std.proofs.lemmas.List.Splits.{slice_split_first}
use Rattle.hx_select.proofs.Beginnings.{begins-not}
use Rattle.hx_select.specs.declared.tree_select.TreeSelect.{TreeSelect}
use Rattle.hx_select.specs.TreeSelects.{is_comma, pieces_of, stripped, with_piece, with_plain, without_leading, without_trailing}

-- a text that begins with no space
pub leads-none : (text : List ℕ) → ((rest : List ℕ) → text ≢ 32 ∷ rest) → without_leading text ≡ text
leads-none [] none = refl
leads-none (byte ∷ rest) none = rw (begins-not 32 byte rest none) refl

-- a text that ends with no space
pub trails-none : (text : List ℕ) → ((front : List ℕ) → text ≢ front ++ 32 ∷ []) → without_trailing text ≡ text
trails-none text none =
    ap reverse (leads-none (reverse text) (λ rest begins. none (reverse rest) (sym (reverse-reverse text) ∙ ap reverse begins ∙ reverse-cons 32 rest))) ∙ reverse-reverse text

-- a piece without `!` has the plain name
pub plain-piece : (select : TreeSelect) (piece : List ℕ) → 0 < length piece → ((rest : List ℕ) → piece ≢ 33 ∷ rest) → with_piece select piece ≡ with_plain select piece
plain-piece select [] some none = absurd (omega arith)
plain-piece select (byte ∷ rest) some none = rw (begins-not 33 byte rest none) refl

-- a text without a comma is one part
uncut : (text : List ℕ) → position_or_len is_comma text ≡ length text → slice_split is_comma text ≡ text ∷ []
uncut [] none = refl
uncut (byte ∷ text) none = by (is_comma byte) none (uncut text)
  where
    by : (b : Bool) → cond (not b) (1 + position_or_len is_comma text) 0 ≡ suc (length text) → (position_or_len is_comma text ≡ length text → slice_split is_comma text ≡ text ∷ [])
        → cond b ([] ∷ slice_split is_comma text) (onto_first byte (slice_split is_comma text)) ≡ (byte ∷ text) ∷ []
    by true e ih = absurd (omega arith)
    by false e ih = rw (ih (omega arith)) refl

-- what `split_once` tells, as pieces
pub cut_by : (text : List ℕ) (r : Option (Bor (List ℕ) × Bor (List ℕ)))
    → MatchOption r (position_or_len is_comma text ≡ length text)
    (λ x. (x.0.now ≡ before_first is_comma text) × (x.1.now ≡ after_first is_comma text) × (position_or_len is_comma text < length text))
    → MatchOption r (pieces_of text ≡ stripped text ∷ []) (λ x. pieces_of text ≡ stripped x.0.now ∷ pieces_of x.1.now)
cut_by text None h = ap (map stripped) (uncut text h)
cut_by text (Some x) h = ap (map stripped) (slice_split_first is_comma text 0 h.2) ∙ rw (h.0, h.1) refl
