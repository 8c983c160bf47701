-- Names in ascending order, and a search among them.
--     rises              a search can go by halves
--     insert_ascends     after a name is put where a search ends
--     insert_has, remove_has      who is in the list then
use Rattle.std.proofs.Common.{◌≡◌, ℕ, zero, suc, ◌+◌, ◌<◌, ◌≤◌, Bool, true, false, not, ◌&&◌, ◌||◌, List, [], ◌∷◌, length, get_or, Less, Equal, Greater, is_eq, is_lt, refl, sym, ap, subst, ◌∙◌, arith}
use Rattle.std.specs.Ordering.{ordering_reverse, ordering_index}
use Rattle.std.specs.List.{AllByRecursion, AllWithin, HoldsAt, IsDistinct, insert, remove}
use Rattle.std.specs.List.Sorted.{IsSortedBy, IsNonDecreasingBy, IsStrictlySortedBy, IsPermutation}
use Rattle.std.specs.Str.{bytes_eq}
use Rattle.std.proofs.lemmas.Cmp.{nat_list_eq_equiv}
use Rattle.std.proofs.lemmas.List.Sorted.{searchable_from_sorted, list_any-IsPermutation, IsPermutation-insert, IsPermutation-remove}
use Rattle.std.proofs.lemmas.Map.Keys.{Less-from_sorted, IsDistinct-head, IsDistinct-IsPermutation}
use Rattle.std.proofs.lemmas.Map.Lookups.{exact_bytes}
use Rattle.hx_object.specs.Texts.{bytes_cmp}
use Rattle.hx_model.specs.Forest.{is_in}
use Rattle.hx_model.proofs.Climbing.{is_same, same_itself}
use Rattle.hx_forest.specs.Names.{IsAscending}
use Rattle.hx_forest.proofs.Named.{name_total, same_name-cmp}
use Rattle.hx_forest.proofs.Listing.{all_below}

greater_of_less : (a b : List ℕ) → bytes_cmp a b ≡ Less → bytes_cmp b a ≡ Greater
greater_of_less a b e = name_total.antisymm b a ∙ ap ordering_reverse e

less_of_greater : (a b : List ℕ) → bytes_cmp a b ≡ Greater → bytes_cmp b a ≡ Less
less_of_greater a b e = name_total.antisymm b a ∙ ap ordering_reverse e

-- a search can go by halves
pub rises : (xs : List (List ℕ)) (n : List ℕ) → IsAscending xs → IsNonDecreasingBy (λ y. ordering_index (bytes_cmp y n)) xs
rises xs n up = searchable_from_sorted name_total (λ (x : List ℕ). x) xs n sorted
  where
    sorted : IsSortedBy (λ a b. is_lt (bytes_cmp a b)) xs
    sorted k d low within = ap is_lt (greater_of_less (get_or xs k d) (get_or xs (k + 1) d) (Less-from_sorted bytes_cmp xs k (k + 1) d up (omega arith) within))

pub all_insert : (P : List ℕ → Type 0) (xs : List (List ℕ)) (i : ℕ) (n : List ℕ) → P n → AllByRecursion P xs → AllByRecursion P (insert xs i n)
all_insert P [] zero n one all = (one, tt)
all_insert P [] (suc i) n one all = (one, tt)
all_insert P (x ∷ xs) zero n one all = (one, all)
all_insert P (x ∷ xs) (suc i) n one all = (all.0, all_insert P xs i n one all.1)

pub all_remove : (P : List ℕ → Type 0) (xs : List (List ℕ)) (i : ℕ) → AllByRecursion P xs → AllByRecursion P (remove xs i)
all_remove P [] zero all = tt
all_remove P [] (suc i) all = tt
all_remove P (x ∷ xs) zero all = all.1
all_remove P (x ∷ xs) (suc i) all = (all.0, all_remove P xs i all.1)

-- after a name is put between those below it and those above
pub insert_ascends : (xs : List (List ℕ)) (i : ℕ) (n : List ℕ) → IsAscending xs → AllWithin (λ y. bytes_cmp y n ≡ Less) xs 0 i → AllWithin (λ y. bytes_cmp y n ≡ Greater) xs i (length xs) → i ≤ length xs → IsAscending (insert xs i n)
unfolding IsStrictlySortedBy
insert_ascends [] zero n up low high within = (tt, tt)
insert_ascends [] (suc i) n up low high within = (tt, tt)
insert_ascends (x ∷ xs) zero n up low high within =
    let first : bytes_cmp n x ≡ Less = less_of_greater x n (high 0 [] (omega arith) (omega arith)) in
    ((first, all_below n x xs first up.0), up)
insert_ascends (x ∷ xs) (suc i) n up low high within = (
  all_insert (λ y. bytes_cmp x y ≡ Less) xs i n (low 0 [] (omega arith) (omega arith)) up.0,
  insert_ascends xs i n up.1 (λ k d _ below. low (suc k) d (omega arith) (omega arith)) (λ k d above below. high (suc k) d (omega arith) (omega arith)) (omega arith),
)

pub remove_ascends : (xs : List (List ℕ)) (i : ℕ) → IsAscending xs → IsAscending (remove xs i)
unfolding IsStrictlySortedBy
remove_ascends [] zero up = tt
remove_ascends [] (suc i) up = tt
remove_ascends (x ∷ xs) zero up = up.1
remove_ascends (x ∷ xs) (suc i) up = (all_remove (λ y. bytes_cmp x y ≡ Less) xs i up.0, remove_ascends xs i up.1)

pub none_ascends : IsAscending []
unfolding IsStrictlySortedBy
none_ascends = tt

-- ---- who is in the list

pub insert_has : (xs : List (List ℕ)) (i : ℕ) (n q : List ℕ) → is_in q (insert xs i n) ≡ (bytes_eq q n || is_in q xs)
insert_has xs i n q = sym (list_any-IsPermutation (bytes_eq q) (n ∷ xs) (insert xs i n) (IsPermutation-insert xs i n))

-- a name that was found is in the list
pub found_has : (xs : List (List ℕ)) (i : ℕ) (n q : List ℕ) → i < length xs → HoldsAt (λ y. bytes_cmp y n ≡ Equal) xs i → is_in q xs ≡ (bytes_eq q n || is_in q xs)
found_has xs i n q within is = or_old (bytes_eq q n) (is_in q xs) (λ e. subst (λ (m : List ℕ). is_in m xs ≡ true) (sym (is_same q n e)) there)
  where
    or_old : (a b : Bool) → (a ≡ true → b ≡ true) → b ≡ (a || b)
    or_old true b h = h refl
    or_old false b h = refl

    place : (ys : List (List ℕ)) (k : ℕ) → k < length ys → HoldsAt (λ y. bytes_cmp y n ≡ Equal) ys k → is_in n ys ≡ true
    place [] k below h = absurd (omega arith)
    place (y ∷ ys) zero below h = ap (λ b. b || is_in n ys) (subst (λ (m : List ℕ). bytes_eq n m ≡ true) (sym (exact_bytes y n (h []))) (same_itself n))
    place (y ∷ ys) (suc k) below h = later (bytes_eq n y) (is_in n ys) (place ys k (omega arith) h)
      where
        later : (a b : Bool) → b ≡ true → (a || b) ≡ true
        later true b e = refl
        later false b e = e

    there : is_in n xs ≡ true
    there = place xs i within is

pub distinct_names : (xs : List (List ℕ)) → IsAscending xs → IsDistinct bytes_eq xs
unfolding IsStrictlySortedBy IsDistinct
distinct_names [] up = tt
distinct_names (x ∷ xs) up = (apart xs up.0, distinct_names xs up.1)
  where
    apart : (ys : List (List ℕ)) → AllByRecursion (λ y. bytes_cmp x y ≡ Less) ys → AllByRecursion (λ y. bytes_eq x y ≡ false) ys
    apart [] all = tt
    apart (y ∷ ys) all = (same_name-cmp x y ∙ ap is_eq all.0, apart ys all.1)

out_of : (x : List ℕ) (xs : List (List ℕ)) → AllByRecursion (λ y. bytes_eq x y ≡ false) xs → is_in x xs ≡ false
out_of x [] all = refl
out_of x (y ∷ xs) all = ap (λ b. b || is_in x xs) all.0 ∙ out_of x xs all.1

flips : (a b : List ℕ) → bytes_eq a b ≡ bytes_eq b a
flips a b = nat_list_eq_equiv.symm a b

-- once the name at a place is taken out
pub remove_has : (xs : List (List ℕ)) (i : ℕ) (n q : List ℕ) → IsAscending xs → i < length xs → HoldsAt (λ y. bytes_cmp y n ≡ Equal) xs i → is_in q (remove xs i) ≡ (not (bytes_eq q n) && is_in q xs)
remove_has xs i n q up within is = without (bytes_eq q n) (is_in q xs) (is_in q (remove xs i)) all (λ e. subst (λ (m : List ℕ). is_in m (remove xs i) ≡ false) (sym (is_same q n e)) gone)
  where
    here : n ≡ get_or xs i n
    here = sym (exact_bytes (get_or xs i n) n (is n))

    moved : IsPermutation xs (n ∷ remove xs i)
    moved = IsPermutation-remove xs i n within here

    all : is_in q xs ≡ (bytes_eq q n || is_in q (remove xs i))
    all = list_any-IsPermutation (bytes_eq q) xs (n ∷ remove xs i) moved

    gone : is_in n (remove xs i) ≡ false
    gone = out_of n (remove xs i) (IsDistinct-head bytes_eq n (remove xs i) (IsDistinct-IsPermutation bytes_eq flips xs (n ∷ remove xs i) moved (distinct_names xs up)))

    without : (a b r : Bool) → b ≡ (a || r) → (a ≡ true → r ≡ false) → r ≡ (not a && b)
    without true b r e h = h refl
    without false b r e h = sym e

-- a name that wasn't found isn't in the list
pub missed_has : (xs : List (List ℕ)) (i : ℕ) (n q : List ℕ) → AllWithin (λ y. bytes_cmp y n ≡ Less) xs 0 i → AllWithin (λ y. bytes_cmp y n ≡ Greater) xs i (length xs) → is_in q xs ≡ (not (bytes_eq q n) && is_in q xs)
missed_has xs i n q low high = without (bytes_eq q n) (is_in q xs) (λ e. subst (λ (m : List ℕ). is_in m xs ≡ false) (sym (is_same q n e)) (out_of n xs (other xs i low high)))
  where
    without : (a r : Bool) → (a ≡ true → r ≡ false) → r ≡ (not a && r)
    without true r h = h refl
    without false r h = refl

    other : (ys : List (List ℕ)) (k : ℕ) → AllWithin (λ y. bytes_cmp y n ≡ Less) ys 0 k → AllWithin (λ y. bytes_cmp y n ≡ Greater) ys k (length ys) → AllByRecursion (λ y. bytes_eq n y ≡ false) ys
    other [] k low high = tt
    other (y ∷ ys) zero low high = (same_name-cmp n y ∙ ap is_eq (less_of_greater y n (high 0 [] (omega arith) (omega arith))), other ys zero (λ k d _ below. absurd (omega arith)) (λ k d above below. high (suc k) d (omega arith) (omega arith)))
    other (y ∷ ys) (suc i) low high = (same_name-cmp n y ∙ ap is_eq (greater_of_less y n (low 0 [] (omega arith) (omega arith))), other ys i (λ k d _ below. low (suc k) d (omega arith) (omega arith)) (λ k d above below. high (suc k) d (omega arith) (omega arith)))
