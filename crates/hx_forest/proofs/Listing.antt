-- Names in ascending order.
--     names_sorted        the names of a forest
--     same_names          two such lists with the same names are the same
--     has_first           a list has its first name
--     ascending           a sort of distinct names
use Rattle.std.proofs.Common.{◌≡◌, ℕ, ◌+◌, true, false, ◌||◌, List, [], ◌∷◌, get_or, Less, Equal, Greater, is_eq, is_lt, refl, sym, ap, subst, ◌∙◌, arith, true≢false}
use Rattle.std.specs.Ordering.{ordering_reverse}
use Rattle.std.specs.List.{AllByRecursion, IsDistinct}
use Rattle.std.specs.List.Sorted.{IsSorted, IsStrictlySortedBy}
use Rattle.std.specs.Str.{bytes_eq}
use Rattle.std.proofs.lemmas.Bool.{and_parts}
use Rattle.std.proofs.lemmas.Map.Keys.{apart_from_distinct, sorted_from_all_adjacent, sorted_head, sorted_tail}
use Rattle.std.proofs.lemmas.Map.Lookups.{exact_bytes}
use Rattle.hx_object.specs.Texts.{bytes_cmp}
use Rattle.hx_model.specs.Forest.{Forest, is_in, names_of}
use Rattle.hx_model.proofs.Climbing.{is_same, same_itself}
use Rattle.hx_forest.proofs.Named.{name_total, same_name-cmp, less, is_below_all, ascends}

-- ---- ascending names

below_all : (x : List ℕ) (f : Forest) → is_below_all x f ≡ true → AllByRecursion (λ y. bytes_cmp x y ≡ Less) (names_of f)
below_all x [] h = tt
below_all x (y ∷ f) h =
    let parts = and_parts (is_lt (bytes_cmp x y.0)) (is_below_all x f) h in
    (less (bytes_cmp x y.0) parts.0, below_all x f parts.1)

pub names_sorted : (f : Forest) → ascends f ≡ true → IsStrictlySortedBy bytes_cmp (names_of f)
unfolding IsStrictlySortedBy
names_sorted [] h = tt
names_sorted (y ∷ f) h =
    let parts = and_parts (is_below_all y.0 f) (ascends f) h in
    (below_all y.0 f parts.0, names_sorted f parts.1)

pub not_among : (x : List ℕ) (xs : List (List ℕ)) → AllByRecursion (λ y. bytes_cmp x y ≡ Less) xs → is_in x xs ≡ false
not_among x [] h = refl
not_among x (y ∷ xs) h = ap (λ b. b || is_in x xs) (same_name-cmp x y ∙ ap is_eq h.0) ∙ not_among x xs h.1

pub all_below : (x y : List ℕ) (ys : List (List ℕ)) → bytes_cmp x y ≡ Less → AllByRecursion (λ z. bytes_cmp y z ≡ Less) ys → AllByRecursion (λ z. bytes_cmp x z ≡ Less) ys
all_below x y [] e h = tt
all_below x y (z ∷ ys) e h = (name_total.trans x y z e h.0, all_below x y ys e h.1)

pub has_first : (y : List ℕ) (ys : List (List ℕ)) → is_in y (y ∷ ys) ≡ true
has_first y ys = ap (λ b. b || is_in y ys) (same_itself y)

pub same_names : (xs ys : List (List ℕ)) → IsStrictlySortedBy bytes_cmp xs → IsStrictlySortedBy bytes_cmp ys → ((q : List ℕ) → is_in q xs ≡ is_in q ys) → xs ≡ ys
same_names [] [] up_x up_y alike = refl
same_names [] (y ∷ ys) up_x up_y alike = absurd (true≢false (sym (alike y ∙ has_first y ys)))
same_names (x ∷ xs) [] up_x up_y alike = absurd (true≢false (sym (has_first x xs) ∙ alike x))
same_names (x ∷ xs) (y ∷ ys) up_x up_y alike =
    let above_x = sorted_head bytes_cmp x xs up_x in
    let above_y = sorted_head bytes_cmp y ys up_y in
    elim (bytes_cmp x y) as (λ o. bytes_cmp x y ≡ o → x ∷ xs ≡ y ∷ ys) [
      | Less ↦ λ e. absurd (true≢false (sym (has_first x xs) ∙ alike x ∙ not_among x (y ∷ ys) (e, all_below x y ys e above_y)))
      | Greater ↦ λ e.
          let back : bytes_cmp y x ≡ Less = name_total.antisymm y x ∙ ap ordering_reverse e in
          absurd (true≢false (sym (has_first y ys) ∙ sym (alike y) ∙ not_among y (x ∷ xs) (back, all_below y x xs back above_x)))
      | Equal ↦ λ e.
          let same : x ≡ y = exact_bytes x y e in
          let above : AllByRecursion (λ z. bytes_cmp x z ≡ Less) ys = subst (λ (q : List ℕ). AllByRecursion (λ z. bytes_cmp q z ≡ Less) ys) (sym same) above_y in
          let rest : xs ≡ ys = same_names xs ys (sorted_tail bytes_cmp x xs up_x) (sorted_tail bytes_cmp y ys up_y) (tails above_x above (subst (λ (z : List ℕ). (q : List ℕ) → is_in q (x ∷ xs) ≡ is_in q (z ∷ ys)) (sym same) alike)) in
          λ i. same i ∷ rest i
    ] refl
  where
    tails : AllByRecursion (λ z. bytes_cmp x z ≡ Less) xs → AllByRecursion (λ z. bytes_cmp x z ≡ Less) ys → ((q : List ℕ) → is_in q (x ∷ xs) ≡ is_in q (x ∷ ys)) → (q : List ℕ) → is_in q xs ≡ is_in q ys
    tails low high alike q =
        elim (bytes_eq q x) as (λ b. bytes_eq q x ≡ b → (b || is_in q xs) ≡ (b || is_in q ys) → is_in q xs ≡ is_in q ys) [
          | true ↦ λ e _. subst (λ (p : List ℕ). is_in p xs ≡ is_in p ys) (sym (is_same q x e)) (not_among x xs low ∙ sym (not_among x ys high))
          | false ↦ λ e h. h
        ] refl (alike q)

-- ---- a sort

-- a sort of distinct names puts each below the next
pub ascending : (xs : List (List ℕ)) → IsSorted bytes_cmp xs → IsDistinct bytes_eq xs → IsStrictlySortedBy bytes_cmp xs
unfolding IsStrictlySortedBy
ascending [] sorted distinct = tt
ascending (x ∷ xs) sorted distinct = sorted_from_all_adjacent name_total (x ∷ xs) x (λ k within.
    rises (get_or (x ∷ xs) k x) (get_or (x ∷ xs) (k + 1) x) (sorted k x (omega arith) within) (apart_from_distinct bytes_eq (x ∷ xs) k (k + 1) x distinct (omega arith) within))
  where
    rises : (a b : List ℕ) → is_lt (bytes_cmp b a) ≡ false → bytes_eq a b ≡ false → bytes_cmp a b ≡ Less
    rises a b not_less apart =
        elim (bytes_cmp a b) as (λ o. bytes_cmp a b ≡ o → o ≡ Less) [
          | Less ↦ λ e. refl
          | Equal ↦ λ e. absurd (true≢false (sym (ap is_eq e) ∙ sym (same_name-cmp a b) ∙ apart))
          | Greater ↦ λ e. absurd (true≢false (sym (ap is_lt (name_total.antisymm b a ∙ ap ordering_reverse e)) ∙ not_less))
        ] refl
