-- Keys in their order: each of some keys once.
--     among_in_order      they are the same keys
--     in_order_same       the same keys have the same order
--     in_order_distinct   none is there twice
--     length_in_order     of distinct keys there are as many
--     none_among, in_order_none      no keys
--     first_in_order      the first of some keys
use Rattle.std.proofs.Common.{◌≡◌, Bool, true, false, ◌&&◌, ◌||◌, T, List, [], ◌∷◌, map, length, Option, Some, None, is_some, refl, sym, ap, subst, ◌∙◌, true≢false}
use Rattle.std.specs.List.{AllByRecursion, IsDistinct, list_any}
use Rattle.std.specs.Ordering.{eq_by_cmp, is_eq, is_lt}
use Rattle.std.specs.Cmp.{Equal-is, tied_itself}
use Rattle.std.specs.FinMap.Entries.{below_all, find, is_some-find, is_sorted}
use Rattle.std.specs.FinMap.{FinMap, contains_key-keys, entries, entries_sorted, from_entries, get-from_entries, keys, same_map}
use Rattle.std.proofs.lemmas.List.Sorted.{length_permutation}
use Rattle.std.proofs.lemmas.Map.Keys.{IsDistinct-cons}
use Rattle.hx_model.specs.Forest.{Forest}
use Rattle.hx_model.specs.Keys.{same_key, is_among}
use Rattle.hx_model.specs.declared.key.Key.{Key}
use Rattle.hx_model.proofs.SameKeys.{same_key_is, same_key_itself}
use Rattle.hx_order.specs.KeyOrder.{key_cmp}
use Rattle.hx_order.specs.Ranks.{IsFirst}
use Rattle.hx_order.proofs.Ordered.{key_cmp_total, key_cmp-IsAntisymmetric}
use Rattle.hx_line.proofs.Sets.{same_keys}
use Rattle.hx_queue.specs.Ordered.{entry_of, in_order}

-- keys that tie are the same
tied_is : (a b : Key) → eq_by_cmp key_cmp a b ≡ same_key a b
tied_is a b = by (eq_by_cmp key_cmp a b) refl (same_key a b) refl
  where
    by : (s : Bool) → eq_by_cmp key_cmp a b ≡ s → (t : Bool) → same_key a b ≡ t → s ≡ t
    by true e true f = refl
    by true e false f = absurd (true≢false (sym (same_key_itself a) ∙ ap (same_key a) (key_cmp-IsAntisymmetric a b ((Equal-is (key_cmp a b)).0 e)) ∙ f))
    by false e true f = absurd (true≢false (sym (ap is_eq (tied_itself key_cmp_total a)) ∙ ap (eq_by_cmp key_cmp a) (same_key_is a b f) ∙ e))
    by false e false f = refl

any_tied : (k : Key) (xs : List Key) → list_any (eq_by_cmp key_cmp k) xs ≡ is_among k xs
any_tied k xs = λ i. list_any (λ x. tied_is k x i) xs

abbrev placed : List Key → FinMap key_cmp (Unit {0})
placed xs = from_entries (map entry_of xs)

found_among : (k : Key) (xs : List Key) → is_some (find key_cmp k (map entry_of xs)) ≡ is_among k xs
found_among k xs = is_some-find key_cmp k (map entry_of xs) ∙ ap (list_any (eq_by_cmp key_cmp k)) (keys_of xs) ∙ any_tied k xs
  where
    keys_of : (xs : List Key) → map (λ (e : Key × Unit {0}). e.0) (map entry_of xs) ≡ xs
    keys_of [] = refl
    keys_of (x ∷ xs) = ap (λ l. x ∷ l) (keys_of xs)

pub among_in_order : (k : Key) (xs : List Key) → is_among k (in_order xs) ≡ is_among k xs
among_in_order k xs = sym (any_tied k (in_order xs)) ∙ sym (contains_key-keys (placed xs) k) ∙ ap is_some (get-from_entries key_cmp_total (map entry_of xs) k) ∙ found_among k xs

-- what is found depends on whether it is
one_unit : (a b : Option (Unit {0})) → is_some a ≡ is_some b → a ≡ b
one_unit None None e = refl
one_unit None (Some u) e = absurd (true≢false (sym e))
one_unit (Some u) None e = absurd (true≢false e)
one_unit (Some u) (Some v) e = refl

pub in_order_same : (xs ys : List Key) → ((k : Key) → is_among k xs ≡ is_among k ys) → in_order xs ≡ in_order ys
in_order_same xs ys same =
    ap keys
    (same_map key_cmp_total key_cmp-IsAntisymmetric (placed xs) (placed ys)
    (λ k. get-from_entries key_cmp_total (map entry_of xs) k
    ∙ one_unit (find key_cmp k (map entry_of xs)) (find key_cmp k (map entry_of ys)) (found_among k xs ∙ same k ∙ sym (found_among k ys))
    ∙ sym (get-from_entries key_cmp_total (map entry_of ys) k)))

-- ---- none is there twice

left_of : (a b : Bool) → T (a && b) → T a
left_of true b h = tt
left_of false b h = h

right_of : (a b : Bool) → T (a && b) → T b
right_of true b h = h
right_of false b h = absurd h

-- a key isn't one that comes after it
after_is_other : (k j : Key) → T (is_lt (key_cmp k j)) → same_key k j ≡ false
after_is_other k j h = by (same_key k j) refl
  where
    by : (b : Bool) → same_key k j ≡ b → b ≡ false
    by true e = absurd (subst T (ap is_lt (ap (key_cmp k) (sym (same_key_is k j e)) ∙ tied_itself key_cmp_total k)) h)
    by false e = refl

module _ {X : Type 0} where
  below_apart : (k : Key) (es : List (Key × X)) → T (below_all key_cmp k es) → AllByRecursion (λ y. same_key k y ≡ false) (map (λ (e : Key × X). e.0) es)
  below_apart k [] h = tt
  below_apart k (e ∷ es) h = (after_is_other k e.0 (left_of (is_lt (key_cmp k e.0)) (below_all key_cmp k es) h), below_apart k es (right_of (is_lt (key_cmp k e.0)) (below_all key_cmp k es) h))

  sorted_distinct : (es : List (Key × X)) → T (is_sorted key_cmp es) → IsDistinct same_key (map (λ (e : Key × X). e.0) es)
  unfolding IsDistinct
  sorted_distinct [] h = tt
  sorted_distinct (e ∷ es) h =
      IsDistinct-cons same_key e.0 (map (λ (e : Key × X). e.0) es) (below_apart e.0 es (left_of (below_all key_cmp e.0 es) (is_sorted key_cmp es) h)) (sorted_distinct es (right_of (below_all key_cmp e.0 es) (is_sorted key_cmp es) h))

pub in_order_distinct : (xs : List Key) → IsDistinct same_key (in_order xs)
in_order_distinct xs = sorted_distinct (entries (placed xs)) (entries_sorted (placed xs))

pub length_in_order : (xs : List Key) → IsDistinct same_key xs → length (in_order xs) ≡ length xs
length_in_order xs d = sym (length_permutation (in_order xs) xs (same_keys (in_order xs) xs (in_order_distinct xs) d (λ k. among_in_order k xs)))

-- ---- no keys

pub none_among : (xs : List Key) → ((k : Key) → is_among k xs ≡ false) → xs ≡ []
none_among [] h = refl
none_among (x ∷ xs) h = absurd (true≢false (sym (ap (λ b. b || is_among x xs) (same_key_itself x)) ∙ h x))

pub in_order_none : (xs : List Key) → xs ≡ [] → in_order xs ≡ []
in_order_none xs none = none_among (in_order xs) (λ k. among_in_order k xs ∙ ap (is_among k) none)

-- ---- the first

pub first_in_order : (f : Forest) (xs ys : List Key) (k : Key) → ((j : Key) → is_among j xs ≡ is_among j ys) → IsFirst f xs k → IsFirst f (in_order ys) k
first_in_order f xs ys k same first = record {
  there = among_in_order k ys ∙ sym (same k) ∙ first.there;
  least = λ j there. first.least j (same j ∙ sym (among_in_order j ys) ∙ there);
}
