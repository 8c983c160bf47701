-- The order of keys is total, and only equal keys tie.
--     key_cmp_total, key_cmp-IsAntisymmetric
--     upto_less, upto_not_less   a key is at most another
--     not_below                  where one is at most another, the other isn't less
use Rattle.std.proofs.Common.{◌≡◌, true, false, refl, sym, ap, ◌∙◌, true≢false, eq-eqb}
use Rattle.std.specs.declared.cmp.Ordering.{Ordering}
use Rattle.std.specs.declared.cmp.Ordering.TheVariants.{Less, Equal, Greater}
use Rattle.std.specs.Ordering.{nat_cmp, ordering_then, ordering_reverse, is_lt, is_gt}
use Rattle.std.specs.Cmp.{IsTotalOrder, on_total, then_total, nat_cmp_total}
use Rattle.std.specs.Cmp.Lexicographic.{nat_list_cmp_total}
use Rattle.std.specs.FinMap.{IsAntisymmetric, nat_cmp-IsAntisymmetric, slice_cmp-IsAntisymmetric}
use Rattle.hx_order.specs.KeyOrder.{variant_of, place_of, number_in, name_in, key_cmp}
use Rattle.hx_model.specs.declared.key.Key.{Key}
use Rattle.hx_model.specs.declared.key.Key.TheVariants as key
use Rattle.hx_object.proofs.Identities.{number_of-one}

pub key_cmp_total : IsTotalOrder key_cmp
key_cmp_total = then_total (on_total variant_of nat_cmp_total) (then_total (on_total place_of nat_list_cmp_total) (then_total (on_total number_in nat_cmp_total) (on_total name_in nat_list_cmp_total)))

-- ---- ties

pub both_Equal : (a b : Ordering) → ordering_then a b ≡ Equal → (a ≡ Equal) × (b ≡ Equal)
both_Equal Less b e = absurd (cc)
both_Equal Equal b e = (refl, e)
both_Equal Greater b e = absurd (cc)

-- keys with the same columns
same_columns : (a b : Key) → variant_of a ≡ variant_of b → place_of a ≡ place_of b → number_in a ≡ number_in b → name_in a ≡ name_in b → a ≡ b
same_columns (key.Copy n kind name) (key.Copy m other named) rank place number names = λ i. key.Copy (place i) (number_of-one kind other number i) (names i)
same_columns (key.Tree n) (key.Tree m) rank place number names = ap key.Tree place
same_columns (key.Report n) (key.Report m) rank place number names = ap key.Report place
same_columns (key.Child n name) (key.Child m named) rank place number names = λ i. key.Child (place i) (names i)
same_columns (key.Anchor n name) (key.Anchor m named) rank place number names = λ i. key.Anchor (place i) (names i)
same_columns (key.Used n name) (key.Used m named) rank place number names = λ i. key.Used (place i) (names i)
same_columns (key.Purge n) (key.Purge m) rank place number names = ap key.Purge place
same_columns a b rank place number names = absurd (true≢false (sym (eq-eqb (variant_of a) (variant_of b) rank)))

pub key_cmp-IsAntisymmetric : IsAntisymmetric key_cmp
key_cmp-IsAntisymmetric a b e =
    let ranks = both_Equal _ _ e in
    let places = both_Equal _ _ ranks.1 in
    let numbers = both_Equal _ _ places.1 in
    same_columns a b (nat_cmp-IsAntisymmetric _ _ ranks.0) (slice_cmp-IsAntisymmetric nat_cmp-IsAntisymmetric (place_of a) (place_of b) places.0) (nat_cmp-IsAntisymmetric _ _ numbers.0)
    (slice_cmp-IsAntisymmetric nat_cmp-IsAntisymmetric (name_in a) (name_in b) numbers.1)

-- ---- at most

pub upto_less : (a b : Key) → is_lt (key_cmp a b) ≡ true → is_gt (key_cmp a b) ≡ false
upto_less a b h = by (key_cmp a b) h
  where
    by : (o : Ordering) → is_lt o ≡ true → is_gt o ≡ false
    by Less h = refl
    by Equal h = refl
    by Greater h = absurd (true≢false (sym h))

pub upto_not_less : (a b : Key) → is_lt (key_cmp b a) ≡ false → is_gt (key_cmp a b) ≡ false
upto_not_less a b h = ap is_gt (key_cmp_total.antisymm a b) ∙ by (key_cmp b a) h
  where
    by : (o : Ordering) → is_lt o ≡ false → is_gt (ordering_reverse o) ≡ false
    by Less h = absurd (true≢false h)
    by Equal h = refl
    by Greater h = refl

pub not_below : (a b : Key) → is_gt (key_cmp a b) ≡ false → key_cmp b a ≡ Less → ⊥
not_below a b upto less = true≢false (sym (ap (λ o. is_gt (ordering_reverse o)) less) ∙ sym (ap is_gt (key_cmp_total.antisymm a b)) ∙ upto)
