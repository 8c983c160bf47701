-- Lists in order, of which a run is what a key takes.
--     all_at              what holds of all holds at each index
--     parted_from         a test that holds of what is less than one that it holds of
--     point_prefix        where a test ceases to hold
--     none_before         nothing passes where the first doesn't
--     run_filter          what a key takes stands side by side
use Rattle.std.proofs.Common.{◌≡◌, ℕ, zero, suc, ◌+◌, ◌-◌, ◌<◌, ◌≤◌, Bool, true, false, cond, not, List, [], ◌∷◌, length, take, drop, get_or, filter, refl, sym, ap, ◌∙◌, subst, arith, true≢false}
use Rattle.std.specs.List.{AllByRecursion, prefix_len}
use Rattle.std.specs.List.Sorted.{IsPartitionedBy, IsPartitionPoint, IsStrictlySortedBy}
use Rattle.std.specs.Ordering.{is_lt, is_gt, is_eq}
use Rattle.std.specs.declared.cmp.Ordering.{Ordering}
use Rattle.std.specs.declared.cmp.Ordering.TheVariants.{Less, Equal, Greater}
use Rattle.std.proofs.lemmas.List.Sums.{prefix_len_passes, prefix_len_stops, prefix_len-le-length}

-- what holds of all holds at each index
pub all_at : {X : Type 0} (P : X → Type 0) (xs : List X) (k : ℕ) (d : X) → AllByRecursion P xs → k < length xs → P (get_or xs k d)
all_at P [] k d all within = absurd (omega arith)
all_at P (x ∷ xs) zero d all within = all.0
all_at P (x ∷ xs) (suc k) d all within = all_at P xs k d all.1 (omega arith)

module _ {X : Type 0} (c : X → X → Ordering) where
  -- a test that holds of what is less than one that it holds of
  pub parted_from : (p : X → Bool) → ((x y : X) → c x y ≡ Less → p y ≡ true → p x ≡ true) → (xs : List X) → IsStrictlySortedBy c xs → IsPartitionedBy p xs
  unfolding IsStrictlySortedBy
  parted_from p down [] sorted i j d below within passes = absurd (omega arith)
  parted_from p down (x ∷ xs) sorted zero zero d below within passes = passes
  parted_from p down (x ∷ xs) sorted zero (suc j) d below within passes = down x (get_or xs j d) (all_at (λ y. c x y ≡ Less) xs j d sorted.0 (omega arith)) passes
  parted_from p down (x ∷ xs) sorted (suc i) zero d below within passes = absurd (omega arith)
  parted_from p down (x ∷ xs) sorted (suc i) (suc j) d below within passes = parted_from p down xs sorted.1 i j d (omega arith) (omega arith) passes

-- where a test ceases to hold
pub point_prefix : {X : Type 0} (p : X → Bool) (xs : List X) (i : ℕ) → i ≤ length xs → IsPartitionPoint (λ y. p y ≡ true) (λ y. p y ≡ false) xs i → i ≡ prefix_len p xs
point_prefix p [] i within point = omega arith
point_prefix p (x ∷ xs) i within point =
    let low : i < prefix_len p (x ∷ xs) → ⊥ = λ h. true≢false (sym (prefix_len_passes p (x ∷ xs) i x h) ∙ point.1 i x (omega arith) (omega (arith, prefix_len-le-length p (x ∷ xs)))) in
    let high : prefix_len p (x ∷ xs) < i → ⊥ = λ h. true≢false (sym (point.0 (prefix_len p (x ∷ xs)) x (omega arith) h) ∙ prefix_len_stops p (x ∷ xs) x (omega arith)) in
    omega (arith, low, high)

-- ---- runs

module _ {X : Type 0} (side : X → Ordering) where
  -- no element behind one that isn't before the key is
  pub none_before : (xs : List X) → AllByRecursion (λ y. is_lt (side y) ≡ false) xs → prefix_len (λ y. is_lt (side y)) xs ≡ 0
  none_before [] all = refl
  none_before (x ∷ xs) all = ap (λ b. cond b (1 + prefix_len (λ y. is_lt (side y)) xs) 0) all.0

  behind_out : (o : Ordering) → is_gt o ≡ true → is_eq o ≡ false
  behind_out Less h = refl
  behind_out Equal h = absurd (true≢false (sym h))
  behind_out Greater h = refl

  none_taken : (xs : List X) → AllByRecursion (λ y. is_gt (side y) ≡ true) xs → filter (λ y. is_eq (side y)) xs ≡ []
  none_taken [] all = refl
  none_taken (x ∷ xs) all = ap (λ b. cond b (x ∷ filter (λ y. is_eq (side y)) xs) (filter (λ y. is_eq (side y)) xs)) (behind_out (side x) all.0) ∙ none_taken xs all.1

  abbrev pub start : List X → ℕ
  start xs = prefix_len (λ y. is_lt (side y)) xs

  abbrev pub end : List X → ℕ
  end xs = prefix_len (λ y. not (is_gt (side y))) xs

  pub start_end : (xs : List X) → start xs ≤ end xs
  start_end [] = omega arith
  start_end (x ∷ xs) = elim (side x) as (λ o. cond (is_lt o) (1 + start xs) 0 ≤ cond (not (is_gt o)) (1 + end xs) 0) [
    | Less ↦ omega (arith, start_end xs)
    | Equal ↦ omega arith
    | Greater ↦ omega arith
  ]

  module _ (c : X → X → Ordering) (low : (x y : X) → c x y ≡ Less → is_lt (side x) ≡ false → is_lt (side y) ≡ false) (high : (x y : X) → c x y ≡ Less → is_gt (side x) ≡ true → is_gt (side y) ≡ true) where
    all_low : (x : X) (xs : List X) → is_lt (side x) ≡ false → AllByRecursion (λ y. c x y ≡ Less) xs → AllByRecursion (λ y. is_lt (side y) ≡ false) xs
    all_low x [] h all = tt
    all_low x (y ∷ ys) h all = (low x y all.0 h, all_low x ys h all.1)

    all_high : (x : X) (xs : List X) → is_gt (side x) ≡ true → AllByRecursion (λ y. c x y ≡ Less) xs → AllByRecursion (λ y. is_gt (side y) ≡ true) xs
    all_high x [] h all = tt
    all_high x (y ∷ ys) h all = (high x y all.0 h, all_high x ys h all.1)

    -- what the key takes stands side by side
    pub run_filter : (xs : List X) → IsStrictlySortedBy c xs → take (end xs - start xs) (drop (start xs) xs) ≡ filter (λ y. is_eq (side y)) xs
    unfolding IsStrictlySortedBy
    run_filter [] sorted = refl
    run_filter (x ∷ xs) sorted = elim (side x) as (λ o. side x ≡ o → take (cond (not (is_gt o)) (1 + end xs) 0 - cond (is_lt o) (1 + start xs) 0) (drop (cond (is_lt o) (1 + start xs) 0) (x ∷ xs)) ≡ cond (is_eq o) (x ∷ filter (λ y. is_eq (side y)) xs) (filter (λ y. is_eq (side y)) xs)) [
      | Less ↦ λ e.
          let fewer : (1 + end xs) - (1 + start xs) ≡ end xs - start xs = omega arith in
          let next : 1 + start xs ≡ suc (start xs) = omega arith in
          rw (fewer, next) (run_filter xs sorted.1)
      | Equal ↦ λ e.
          let none : start xs ≡ 0 = none_before xs (all_low x xs (ap is_lt e) sorted.0) in
          let next : (1 + end xs) - 0 ≡ suc (end xs - start xs) = omega (arith, none) in
          let rest : take (end xs - start xs) xs ≡ filter (λ y. is_eq (side y)) xs = subst (λ (k : ℕ). take (end xs - start xs) (drop k xs) ≡ filter (λ y. is_eq (side y)) xs) none (run_filter xs sorted.1) in
          rw next (ap (λ ys. x ∷ ys) rest)
      | Greater ↦ λ e. sym (none_taken xs (all_high x xs (ap is_gt e) sorted.0))
    ] refl
