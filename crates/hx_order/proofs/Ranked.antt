-- The order of turns.
--     turns_in_order     it is total, and only equal keys tie
--     none_before        the first of some keys: none of them is on a lower level
use Rattle.std.proofs.Common.{◌≡◌, ◌<◌, ◌==◌, ℕ, true, false, nat_lt, inl, inr, List, sym, ap, ◌∙◌, true≢false}
use Rattle.std.specs.declared.cmp.Ordering.TheVariants.{Less, Equal}
use Rattle.std.specs.Ordering.{nat_cmp, ordering_then, is_lt}
use Rattle.std.specs.Cmp.{on_total, then_total, nat_cmp_total, nat_cmp_is}
use Rattle.std.proofs.lemmas.Bool.{or_cases, and_parts, ltb-true, eqb-true, cases_Bool}
use Rattle.hx_model.specs.Forest.{Forest}
use Rattle.hx_model.specs.Keys.{is_among}
use Rattle.hx_model.specs.declared.key.Key.{Key}
use Rattle.hx_order.specs.KeyOrder.{key_cmp}
use Rattle.hx_order.specs.Ranks.{rank_of, depth_in, precedes, turn_cmp, AreInOrder, IsFirst}
use Rattle.hx_order.proofs.Ordered.{key_cmp_total, key_cmp-IsAntisymmetric, both_Equal}

pub turns_in_order : AreInOrder
turns_in_order f = (
  then_total (on_total rank_of nat_cmp_total) (then_total (on_total (depth_in f) nat_cmp_total) key_cmp_total),
  λ a b e. key_cmp-IsAntisymmetric a b (both_Equal _ _ (both_Equal _ _ e).1).1,
)

less_cmp : (a b : ℕ) → a < b → nat_cmp a b ≡ Less
less_cmp a b h = sym (nat_cmp_is a b Less h)

tied_cmp : (a b : ℕ) → a ≡ b → nat_cmp a b ≡ Equal
tied_cmp a b h = sym (nat_cmp_is a b Equal h)

-- what is on a lower level comes first
pub before : (f : Forest) (j k : Key) → precedes f j k ≡ true → is_lt (turn_cmp f j k) ≡ true
before f j k e = elim (or_cases (nat_lt (rank_of j) (rank_of k)) _ e) [
  | inl less ↦ ap (λ o. is_lt (ordering_then o (ordering_then (nat_cmp (depth_in f j) (depth_in f k)) (key_cmp j k)))) (less_cmp _ _ (ltb-true (rank_of j) (rank_of k) less))
  | inr both ↦
      let p = and_parts (rank_of j == rank_of k) _ both in
      ap (λ o. is_lt (ordering_then o (ordering_then (nat_cmp (depth_in f j) (depth_in f k)) (key_cmp j k)))) (tied_cmp _ _ (eqb-true (rank_of j) (rank_of k) p.0))
      ∙ ap (λ o. is_lt (ordering_then o (key_cmp j k))) (less_cmp _ _ (ltb-true (depth_in f j) (depth_in f k) p.1))
]

pub not_before : (f : Forest) (j k : Key) → is_lt (turn_cmp f j k) ≡ false → precedes f j k ≡ false
not_before f j k h = elim (cases_Bool (precedes f j k)) [ inl e ↦ absurd (true≢false (sym (before f j k e) ∙ h)) | inr out ↦ out ]

-- none of some keys is on a lower level than the first one
pub none_before : (f : Forest) (keys : List Key) (k : Key) → IsFirst f keys k → (j : Key) → is_among j keys ≡ true → precedes f j k ≡ false
none_before f keys k first j there = not_before f j k (first.least j there)
