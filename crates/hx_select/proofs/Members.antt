-- Texts in order, by what is among them.
--     same_member, same_lookup    what order finds is what equality finds
--     inserted                    one more is there
--     kept, left_out              a value that is allowed is kept, and another is left out
--     next_of                     what is left, by its first item
use Rattle.std.proofs.Common.{◌≡◌, ℕ, ◌+◌, ◌<◌, length, get_or, drop, Bool, true, false, cond, ◌&&◌, ◌||◌, List, [], ◌∷◌, Some, refl, sym, ap, ◌∙◌}
use Rattle.std.specs.Prelude.{Option}
use Rattle.std.specs.Bool.{one_answer}
use Rattle.std.specs.BTreeMap.{is_at}
use Rattle.std.specs.Cmp.Lexicographic.{slice_cmp}
use Rattle.std.specs.List.{list_any}
use Rattle.std.specs.Map.{lookup}
use Rattle.std.specs.Ordering.{nat_cmp}
use Rattle.std.specs.Str.{bytes_eq}
use Rattle.std.proofs.lemmas.List.{drop_more}
use Rattle.std.proofs.lemmas.Map.Text.{is_eq-slice_cmp}
use Rattle.std.proofs.lemmas.Slice.Eq.{bytes_eq-Decides}
use Rattle.hx_select.specs.Matching.{is_allowed}
use Rattle.hx_select.specs.Selectors.{is_among}

-- the test of two texts, from either side
pub turned : (a b : List ℕ) → bytes_eq a b ≡ bytes_eq b a
turned a b = one_answer {P = a ≡ b} _ _ (bytes_eq-Decides a b) (λ same. sym ((bytes_eq-Decides b a).0 same), λ same. (bytes_eq-Decides b a).1 (sym same))

-- a text is itself
pub itself : (a : List ℕ) → bytes_eq a a ≡ true
itself a = (bytes_eq-Decides a a).1 refl

-- what order finds is what equality finds
pub same_member : (q : List ℕ) (texts : List (List ℕ)) → list_any (is_at (slice_cmp nat_cmp q)) texts ≡ is_among q texts
same_member q [] = refl
same_member q (text ∷ texts) = λ i. is_eq-slice_cmp q text i || same_member q texts i

pub same_lookup : {X : Type 0} (q : List ℕ) (entries : List (List ℕ × X)) → lookup (is_at (slice_cmp nat_cmp q)) entries ≡ lookup (bytes_eq q) entries
same_lookup q [] = refl
same_lookup q (entry ∷ entries) = λ i. cond (is_eq-slice_cmp q entry.0 i) (Some entry.1) (same_lookup q entries i)

either : (a b : Bool) → cond a true b ≡ (a || b)
either true b = refl
either false b = refl

-- one more is there
pub inserted : (text : List ℕ) (old new : List (List ℕ))
    → ((q : List ℕ) → list_any (is_at (slice_cmp nat_cmp q)) new ≡ cond (is_at (slice_cmp nat_cmp text) q) true (list_any (is_at (slice_cmp nat_cmp q)) old))
    → (q : List ℕ) → is_among q new ≡ (bytes_eq q text || is_among q old)
inserted text old new updates q =
    sym (same_member q new) ∙ updates q
    ∙ (λ i. cond ((is_eq-slice_cmp text q ∙ turned text q) i) true (same_member q old i))
    ∙ either (bytes_eq q text) (is_among q old)

-- ---- values that are allowed

module _ (allowed : Option (List (List ℕ))) (value : List ℕ) where
  -- a value that is allowed is kept
  pub kept : is_allowed allowed value ≡ true → (q : List ℕ) (there left : Bool)
      → ((bytes_eq q value || there) || (is_allowed allowed q && left)) ≡ (there || (is_allowed allowed q && (bytes_eq q value || left)))
  kept may q there left = by (bytes_eq q value) refl there
    where
      by : (same : Bool) → bytes_eq q value ≡ same → (there : Bool) → ((same || there) || (is_allowed allowed q && left)) ≡ (there || (is_allowed allowed q && (same || left)))
      by true e true = refl
      by true e false = sym (ap (λ b. b && true) (ap (is_allowed allowed) ((bytes_eq-Decides q value).0 e) ∙ may))
      by false e there = refl

  -- another is left out
  pub left_out : is_allowed allowed value ≡ false → (q : List ℕ) (there left : Bool)
      → (there || (is_allowed allowed q && left)) ≡ (there || (is_allowed allowed q && (bytes_eq q value || left)))
  left_out may q there left = by (bytes_eq q value) refl
    where
      by : (same : Bool) → bytes_eq q value ≡ same → (there || (is_allowed allowed q && left)) ≡ (there || (is_allowed allowed q && (same || left)))
      by true e =
          let no : is_allowed allowed q ≡ false = ap (is_allowed allowed) ((bytes_eq-Decides q value).0 e) ∙ may in
          ap (λ b. there || (b && left)) no ∙ sym (ap (λ b. there || (b && true)) no)
      by false e = refl

-- what is left, by its first item
pub next_of : (values : List (List ℕ)) (at : ℕ) (value : List ℕ) → at < length values → value ≡ get_or values at value → value ∷ drop (at + 1) values ≡ drop at values
next_of values at value within is = sym (drop_more values at value within ∙ ap (λ v. v ∷ drop (at + 1) values) (sym is))
