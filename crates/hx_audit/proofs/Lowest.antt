-- The least of some keys.
--     least_on     the least of keys and of others behind them
--     first_is     where they are those that want a write, it is the first that does
use Rattle.std.proofs.Common.{◌≡◌, ◌⊎◌, Bool, true, false, Option, Some, None, List, [], ◌∷◌, ◌++◌, refl, sym, ap, subst, inl, inr, true≢false}
use Rattle.std.specs.Prelude.{is_some, if◌then◌else◌}
use Rattle.std.specs.List.{AllByRecursion}
use Rattle.std.specs.Ordering.{is_lt, is_gt}
use Rattle.std.specs.Cmp.{tied_itself, upto}
use Rattle.std.proofs.lemmas.Bool.{or_cases}
use Rattle.hx_audit.specs.Auditing.{IsFirst}
use Rattle.hx_audit.specs.Candidates.{lesser, least_from}
use Rattle.hx_order.specs.KeyOrder.{key_cmp}
use Rattle.hx_order.proofs.Ordered.{key_cmp_total, upto_less, upto_not_less, not_below}
use Rattle.hx_model.proofs.SameKeys.{same_key_is}
use Rattle.hx_model.specs.Keys.{same_key, is_among}
use Rattle.hx_model.specs.Machine.{wants}
use Rattle.hx_model.specs.State.{State}
use Rattle.hx_model.specs.Wanted.{wanted_write}
use Rattle.hx_model.specs.declared.key.Key.{Key}
use Rattle.hx_model.specs.declared.key.Write.{Write}

-- the least of keys and of others behind them
pub least_on : (best : Option Key) (keys others : List Key) → least_from best (keys ++ others) ≡ least_from (least_from best keys) others
least_on best [] others = refl
least_on best (k ∷ keys) others = least_on (Some (lesser best k)) keys others

module _ (P : Key → Type 0) where
  -- a key that is at most one and each of others, and that has what they have
  abbrev IsLeastOf : Key → List Key → Option Key → Type 0
  IsLeastOf best keys None = ⊥
  IsLeastOf best keys (Some k) = (P best → AllByRecursion P keys → P k) × (is_gt (key_cmp k best) ≡ false) × ((q : Key) → is_among q keys ≡ true → is_gt (key_cmp k q) ≡ false)

  -- one more
  next : (best x : Key) (xs : List Key) (found : Option Key) (b : Bool) → is_lt (key_cmp x best) ≡ b → IsLeastOf (if b then x else best) xs found → IsLeastOf best (x ∷ xs) found
  next best x xs None true is h = h
  next best x xs None false is h = h
  next best x xs (Some k) true is h = (λ p all. h.0 all.0 all.1, upto key_cmp_total k x best h.1 (upto_less x best is), λ q mem. among q (or_cases (same_key q x) (is_among q xs) mem))
    where
      among : (q : Key) → (same_key q x ≡ true) ⊎ (is_among q xs ≡ true) → is_gt (key_cmp k q) ≡ false
      among q (inl here) = subst (λ (z : Key). is_gt (key_cmp k z) ≡ false) (sym (same_key_is q x here)) h.1
      among q (inr later) = h.2 q later
  next best x xs (Some k) false is h = (λ p all. h.0 p all.1, h.1, λ q mem. among q (or_cases (same_key q x) (is_among q xs) mem))
    where
      among : (q : Key) → (same_key q x ≡ true) ⊎ (is_among q xs ≡ true) → is_gt (key_cmp k q) ≡ false
      among q (inl here) = subst (λ (z : Key). is_gt (key_cmp k z) ≡ false) (sym (same_key_is q x here)) (upto key_cmp_total k best x h.1 (upto_not_less best x is))
      among q (inr later) = h.2 q later

  least_is : (best : Key) (keys : List Key) → IsLeastOf best keys (least_from (Some best) keys)
  least_is best [] = (λ p all. p, ap is_gt (tied_itself key_cmp_total best), λ q mem. absurd (true≢false (sym mem)))
  least_is best (x ∷ xs) = next best x xs (least_from (Some (lesser (Some best) x)) xs) (is_lt (key_cmp x best)) refl (least_is (lesser (Some best) x) xs)

none_wanted : (o : Option Write) → (is_some o ≡ true → ⊥) → o ≡ None
none_wanted None none = refl
none_wanted (Some w) none = absurd (none refl)

pub first_is : (s : State) (keys : List Key) → AllByRecursion (λ k. wants s k ≡ true) keys → ((k : Key) → wants s k ≡ true → is_among k keys ≡ true) → IsFirst s (least_from None keys)
first_is s [] all has = λ k. none_wanted (wanted_write s k) (λ h. true≢false (sym (has k h)))
first_is s (x ∷ xs) all has = by (least_from (Some x) xs) (least_is (λ k. wants s k ≡ true) x xs)
  where
    by : (found : Option Key) → IsLeastOf (λ k. wants s k ≡ true) x xs found → IsFirst s found
    by None h = absurd h
    by (Some k) h = (h.0 all.0 all.1, λ other less. none_wanted (wanted_write s other) (λ wanting. not_below k other (among other (or_cases (same_key other x) (is_among other xs) (has other wanting))) less))
      where
        among : (q : Key) → (same_key q x ≡ true) ⊎ (is_among q xs ≡ true) → is_gt (key_cmp k q) ≡ false
        among q (inl here) = subst (λ (z : Key). is_gt (key_cmp k z) ≡ false) (sym (same_key_is q x here)) h.1
        among q (inr later) = h.2 q later
