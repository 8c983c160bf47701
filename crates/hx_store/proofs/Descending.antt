-- ObjectTable whose names descend: the last one has the least name.
use Rattle.std.proofs.Common.{◌≡◌, ℕ, ◌+◌, ◌-◌, zero, suc, false, Option, Some, None, List, [], ◌∷◌, ◌++◌, reverse, length, take, get_or, refl, sym, ap, subst, ◌∙◌, arith, true≢false}
use Rattle.std.specs.Prelude.{is_some, IfSome, slice_get}
use Rattle.std.specs.Ordering.{is_lt}
use Rattle.std.specs.List.{AllByRecursion, IsDistinct}
use Rattle.std.specs.List.Sorted.{IsPermutation, IsSorted}
use Rattle.std.specs.Map.{keys_of}
use Rattle.std.specs.Str.{bytes_eq}
use Rattle.std.proofs.lemmas.Cmp.{nat_list_eq_equiv}
use Rattle.std.proofs.lemmas.List.{reverse-append}
use Rattle.std.proofs.lemmas.Map.Entries.{lookup_from_place}
use Rattle.indexmap.proofs.MapLemmas.{lookup_permutation, sorted_keys}
use Rattle.hx_object.specs.Texts.{bytes_cmp}
use Rattle.hx_object.specs.declared.object.Object.{Object}
use Rattle.hx_store.specs.Least.{Descends, IsLeast, is_less}
use Rattle.hx_store.specs.ObjectTable.{found}
use Rattle.hx_store.proofs.Least.{Entry, at_each, names_ranked, not_less_itself, place_among}

-- ---- what a sort gives, turned round

-- no name is less than one before it
abbrev Ascends : List (List ℕ) → Type 0
Ascends [] = Unit {0}
Ascends (name ∷ names) = AllByRecursion (λ other. is_less other name ≡ false) names × Ascends names

further : (k name : List ℕ) (names : List (List ℕ)) → is_less name k ≡ false → AllByRecursion (λ other. is_less other name ≡ false) names → AllByRecursion (λ other. is_less other k ≡ false) names
further k name [] less all = tt
further k name (n ∷ names) less all = (names_ranked.chain n name k all.0 less, further k name names less all.1)

first_two : (name : List ℕ) (names : List (List ℕ)) → IsSorted bytes_cmp (name ∷ names) → Ascends names → AllByRecursion (λ other. is_less other name ≡ false) names
first_two name [] sorted rest = tt
first_two name (n ∷ names) sorted rest = let less : is_less n name ≡ false = sorted zero name (omega arith) (omega arith) in (less, further name n names less rest.0)

ascends_from : (names : List (List ℕ)) → IsSorted bytes_cmp names → Ascends names
ascends_from [] sorted = tt
ascends_from (name ∷ names) sorted =
    let rest = ascends_from names (λ k d _ within. ap (λ n. is_less (get_or (name ∷ names) n d) (get_or names k d)) (next k) ∙ sorted (suc k) d (omega arith) (omega arith)) in
    (first_two name names sorted rest, rest)
  where
    next : (k : ℕ) → suc (k + 1) ≡ suc k + 1
    next k = omega arith

all_push : (P : List ℕ → Type 0) (es : List Entry) (e : Entry) → AllByRecursion P (keys_of es) → P e.0 → AllByRecursion P (keys_of (es ++ e ∷ []))
all_push P [] e all last = (last, tt)
all_push P (f ∷ es) e all last = (all.0, all_push P es e all.1 last)

all_reversed : (P : List ℕ → Type 0) (es : List Entry) → AllByRecursion P (keys_of es) → AllByRecursion P (keys_of (reverse es))
all_reversed P [] all = tt
all_reversed P (e ∷ es) all = subst (λ fs. AllByRecursion P (keys_of fs)) (sym (reverse-append (e ∷ []) es)) (all_push P (reverse es) e (all_reversed P es all.1) all.0)

descends_push : (es : List Entry) (e : Entry) → Descends (keys_of es) → AllByRecursion (λ other. is_less other e.0 ≡ false) (keys_of es) → Descends (keys_of (es ++ e ∷ []))
descends_push [] e down all = (tt, tt)
descends_push (f ∷ es) e down all = (all_push (λ other. is_less f.0 other ≡ false) es e down.0 all.0, descends_push es e down.1 all.1)

descends_reversed : (es : List Entry) → Ascends (keys_of es) → Descends (keys_of (reverse es))
descends_reversed [] up = tt
descends_reversed (e ∷ es) up =
    subst (λ fs. Descends (keys_of fs)) (sym (reverse-append (e ∷ []) es)) (descends_push (reverse es) e (descends_reversed es up.1) (all_reversed (λ other. is_less other e.0 ≡ false) es up.0))

pub sorted_names : (es : List Entry) → IsSorted (λ (a b : Entry). bytes_cmp a.0 b.0) es → IsSorted bytes_cmp (keys_of es)
sorted_names es = sorted_keys is_less es

-- sorted by their names, and then turned round
pub sorted_backwards : (old new : List Entry) → IsSorted bytes_cmp (keys_of old) → new ≡ reverse old → Descends (keys_of new)
sorted_backwards old new up is = subst (λ es. Descends (keys_of es)) (sym is) (descends_reversed old (ascends_from (keys_of old) up))

-- the places are the same in another order
pub places_moved : (old new : List Entry) → IsPermutation old new → IsDistinct bytes_eq (keys_of new) → (q : List ℕ) → place_among new q ≡ place_among old q
places_moved old new moved distinct q =
    lookup_permutation nat_list_eq_equiv old new moved distinct (bytes_eq q) (λ x y. nat_list_eq_equiv.congr q x y)

-- ---- the last place

all_take : (P : List ℕ → Type 0) (n : ℕ) (es : List Entry) → AllByRecursion P (keys_of es) → AllByRecursion P (keys_of (take n es))
all_take P zero es all = tt
all_take P (suc n) [] all = tt
all_take P (suc n) (e ∷ es) all = (all.0, all_take P n es all.1)

pub descends_take : (n : ℕ) (es : List Entry) → Descends (keys_of es) → Descends (keys_of (take n es))
descends_take zero es down = tt
descends_take (suc n) [] down = tt
descends_take (suc n) (e ∷ es) down = (all_take (λ other. is_less e.0 other ≡ false) n es down.0, descends_take n es down.1)

at_place : (P : List ℕ → Type 0) (es : List Entry) (i : ℕ) (e : Entry) → AllByRecursion P (keys_of es) → slice_get es i ≡ Some e → P e.0
at_place P [] i e all at = absurd (true≢false (ap is_some (sym at)))
at_place P (x ∷ es) zero e all at = let this : x ≡ e = cc in subst (λ (y : Entry). P y.0) this all.0
at_place P (x ∷ es) (suc i) e all at = at_place P es i e all.1 at

last_least : (es : List Entry) (i : ℕ) (e : Entry) → length es ≡ suc i → slice_get es i ≡ Some e → Descends (keys_of es) → AllByRecursion (λ (x : Entry). is_less x.0 e.0 ≡ false) es
last_least [] i e long at down = tt
last_least (x ∷ []) zero e long at down = let this : x ≡ e = cc in (subst (λ (y : Entry). is_less x.0 y.0 ≡ false) this (not_less_itself x.0), tt)
last_least (x ∷ []) (suc i) e long at down = absurd (omega (arith, long))
last_least (x ∷ y ∷ es) zero e long at down = absurd (omega (arith, long))
last_least (x ∷ y ∷ es) (suc i) e long at down = (at_place (λ other. is_less x.0 other ≡ false) (y ∷ es) i e down.0 at, last_least (y ∷ es) i e (omega (arith, long)) at down.1)

last_is : (es : List Entry) (name : List ℕ) (x : Object) → IsDistinct bytes_eq (keys_of es) → Descends (keys_of es) → slice_get es (length es - 1) ≡ Some (name, Some x) → IsLeast (λ q. found (place_among es q)) (Some x)
last_is [] name x distinct down at = absurd (true≢false (ap is_some (sym at)))
last_is (e ∷ es) name x distinct down at =
    let here : slice_get (e ∷ es) (length es) ≡ Some (name, Some x) = ap (slice_get (e ∷ es)) (omega arith) ∙ at in (
      name,
      ap found (lookup_from_place nat_list_eq_equiv (e ∷ es) (length es) name (Some x) distinct here),
      λ other y there. by other (place_among (e ∷ es) other) refl y there,
    )
  where
    by : (other : List ℕ) (p : Option (Option Object)) → place_among (e ∷ es) other ≡ p → (y : Object) → found p ≡ Some y → is_lt (bytes_cmp other name) ≡ false
    by other None is y there = absurd (true≢false (ap is_some (sym there)))
    by other (Some v) is y there = at_each (λ n _. is_lt (bytes_cmp n name) ≡ false) (e ∷ es) (last_least (e ∷ es) (length es) (name, Some x) (omega arith) (ap (slice_get (e ∷ es)) (omega arith) ∙ at) down) other v is

pub last_place : (es : List Entry) (name : List ℕ) (place : Option Object) → IsDistinct bytes_eq (keys_of es) → Descends (keys_of es) → slice_get es (length es - 1) ≡ Some (name, place) → IfSome place (λ x. IsLeast (λ q. found (place_among es q)) (Some x))
last_place es name None distinct down at = tt
last_place es name (Some x) distinct down at = last_is es name x distinct down at
