-- Pairs of a key and a value, as labels and annotations are.
--     has_ascending_keys   the keys ascend by their bytes, so that each stands once
--     value_of             the value of a key
--     with_pair            the pairs with a value for a key, in the place of the one that it had
use Rattle.std.specs.Prelude.{ℕ, Bool, true, ◌&&◌, nat_eq, List, [], ◌∷◌, Option}
use Rattle.std.specs.Ordering.{is_lt}
use Rattle.std.specs.Str.{bytes_eq}
use Rattle.std.specs.Map.{lookup}
use Rattle.std.specs.FinMap.Entries.{by_order}
use Rattle.std.specs.Cmp.{IsEquivalence, IsPartialEquivalence, partial_equiv_from_equiv, and_equiv, on_equiv}
use Rattle.std.specs.Cmp.Lexicographic.{pointwise, lists_equiv, nat_list_eq_equiv}
use Rattle.hx_object.specs.Texts.{bytes_cmp}

-- each key is less than the one after it
abbrev pub has_ascending_keys : List (List ℕ × List ℕ) → Bool
has_ascending_keys [] = true
has_ascending_keys (pair ∷ []) = true
has_ascending_keys (pair ∷ next ∷ pairs) = is_lt (bytes_cmp pair.0 next.0) && has_ascending_keys (next ∷ pairs)

-- the value of a key
abbrev pub value_of : List (List ℕ × List ℕ) → List ℕ → Option (List ℕ)
value_of pairs key = lookup (bytes_eq key) pairs

-- the pairs with a value for a key, in its place among the keys
abbrev pub with_pair : List ℕ → List ℕ → List (List ℕ × List ℕ) → List (List ℕ × List ℕ)
with_pair key value [] = (key, value) ∷ []
with_pair key value (pair ∷ pairs) = by_order (bytes_cmp key pair.0) ((key, value) ∷ pair ∷ pairs) ((key, value) ∷ pairs) (pair ∷ with_pair key value pairs)

-- two pairs are one
abbrev pub same_pair : List ℕ × List ℕ → List ℕ × List ℕ → Bool
same_pair x y = pointwise nat_eq x.0 y.0 && pointwise nat_eq x.1 y.1

-- the test of two lists of pairs is an equivalence
pub same_pairs_law : IsEquivalence (pointwise same_pair)
same_pairs_law = lists_equiv (and_equiv (on_equiv (λ (x : List ℕ × List ℕ). x.0) nat_list_eq_equiv) (on_equiv (λ (x : List ℕ × List ℕ). x.1) nat_list_eq_equiv))

-- the same, as `PartialEq` has it
pub same_pairs_partial : IsPartialEquivalence (pointwise same_pair)
same_pairs_partial = partial_equiv_from_equiv same_pairs_law
