-- The key of a tree label, and the look-up of it.
use Rattle.std.proofs.Common.{◌≡◌, ◌-◌, ℕ, Bool, true, false, List, [], ◌∷◌, ◌++◌, length, take, drop, refl, sym, ap, ◌∙◌, arith, length-append, is_some, ◌||◌, cond, Some}
use Rattle.std.specs.Bool.{one_answer}
use Rattle.std.specs.List.{list_any}
use Rattle.std.specs.Map.{lookup}
use Rattle.std.specs.Str.{bytes_eq}
use Rattle.std.proofs.Math.Seq.{drop-append_seam}
use Rattle.std.proofs.lemmas.List.{append_cancel_right, take-append-drop}
use Rattle.std.proofs.lemmas.Slice.Eq.{bytes_eq-Decides}
use Rattle.hx_select.proofs.Beginnings.{not-true}

-- a label is there where one of the pairs has its key
pub label_there : (key : List ℕ) (labels : List (List ℕ × List ℕ)) → list_any (λ label. bytes_eq key label.0) labels ≡ is_some (lookup (bytes_eq key) labels)
label_there key [] = refl
label_there key (label ∷ labels) = by (bytes_eq key label.0) (label_there key labels)
  where
    by : (same : Bool) → list_any (λ (other : List ℕ × List ℕ). bytes_eq key other.0) labels ≡ is_some (lookup (bytes_eq key) labels)
        → same || list_any (λ (other : List ℕ × List ℕ). bytes_eq key other.0) labels ≡ is_some (cond same (Some label.1) (lookup (bytes_eq key) labels))
    by true rest = refl
    by false rest = rest

-- a key with the suffix is that of a name where the name stands before the suffix
pub same_front : (key name suffix front : List ℕ) → bytes_eq (drop (length key - length suffix) key) suffix ≡ true → front ≡ take (length key - length suffix) key
    → bytes_eq front name ≡ bytes_eq (name ++ suffix) key
same_front key name suffix front ends is =
    let tail : drop (length key - length suffix) key ≡ suffix = (bytes_eq-Decides _ _).0 ends in
    let whole : front ++ suffix ≡ key = ap (λ f. f ++ suffix) is ∙ ap (λ s. take (length key - length suffix) key ++ s) (sym tail) ∙ take-append-drop _ key in
    one_answer {P = front ≡ name} _ _ (bytes_eq-Decides front name)
    (λ same. append_cancel_right front name suffix (whole ∙ sym ((bytes_eq-Decides _ _).0 same)), λ same. (bytes_eq-Decides _ _).1 (ap (λ f. f ++ suffix) (sym same) ∙ whole))

ends_so : (name suffix key : List ℕ) → name ++ suffix ≡ key → drop (length key - length suffix) key ≡ suffix
ends_so name suffix key is =
    let len : length key - length suffix ≡ length name = omega (arith, ap length is, length-append name suffix) in
    ap (λ n. drop n key) len ∙ ap (drop (length name)) (sym is) ∙ drop-append_seam name suffix

-- a key without the suffix is that of no name
pub no_front : (key name suffix : List ℕ) → bytes_eq (drop (length key - length suffix) key) suffix ≡ false → false ≡ bytes_eq (name ++ suffix) key
no_front key name suffix other = sym (not-true _ (λ same.
    let ends : bytes_eq (drop (length key - length suffix) key) suffix ≡ true = (bytes_eq-Decides _ _).1 (ends_so name suffix key ((bytes_eq-Decides _ _).0 same)) in cc))

-- the same, by texts that are those
pub same_front_by : (key name suffix k n s front : List ℕ) → k ≡ key → n ≡ name → s ≡ suffix → bytes_eq (drop (length k - length s) k) s ≡ true
    → front ≡ take (length k - length s) k → bytes_eq front n ≡ bytes_eq (name ++ suffix) key
same_front_by key name suffix k n s front key-is name-is suffix-is ends is = same_front k n s front ends is ∙ rw (key-is, name-is, suffix-is) refl

pub no_front_by : (key name suffix k s : List ℕ) → k ≡ key → s ≡ suffix → bytes_eq (drop (length k - length s) k) s ≡ false → false ≡ bytes_eq (name ++ suffix) key
no_front_by key name suffix k s key-is suffix-is other = no_front k name s other ∙ rw (key-is, suffix-is) refl
