-- Tests over lists: what is found, and what is left without it.
use Rattle.std.proofs.Common.{◌≡◌, ◌+◌, ◌<◌, ℕ, zero, suc, Bool, true, false, not, cond, ◌&&◌, ◌||◌, List, [], ◌∷◌, map, filter, length, slice_index_or, refl, sym, ap, subst, ◌∙◌, true≢false, arith, Option, Some, None, is_some}
use Rattle.std.specs.Prelude.{find}
use Rattle.std.specs.List.{list_any, AllByRecursion, AllPairs, remove, position_or_len}

or_swap : (a b c d : Bool) → ((a || b) || (c || d)) ≡ ((a || c) || (b || d))
or_swap true b c d = refl
or_swap false true true d = refl
or_swap false true false d = refl
or_swap false false true d = refl
or_swap false false false d = refl

or_true : (a b : Bool) → b ≡ true → (a || b) ≡ true
or_true true b h = refl
or_true false b h = h

left_no : (a b : Bool) → (a || b) ≡ false → a ≡ false
left_no true b e = absurd (true≢false e)
left_no false b e = refl

right_no : (a b : Bool) → (a || b) ≡ false → b ≡ false
right_no true b e = absurd (true≢false e)
right_no false b e = e

-- what an option has
pub inside : {X : Type 0} (x y : X) → Some x ≡ Some y → x ≡ y
inside {X} x y e = ap (λ (o : Option X). elim o [ Some z ↦ z | None ↦ x ]) e

pub not_some : {X : Type 0} (o : Option X) → ((x : X) → o ≡ Some x → ⊥) → o ≡ None
not_some None h = refl
not_some (Some x) h = absurd (h x refl)

module _ {X : Type 0} where
  -- ---- each element

  pub each : (P : X → Type 0) (xs : List X) → ((j : ℕ) (d : X) → j < length xs → P (slice_index_or xs j d)) → AllByRecursion P xs
  each P [] h = tt
  each P (x ∷ xs) h = (h 0 x (omega arith), each P xs (λ j d within. h (suc j) d (omega arith)))

  pub first_of : (R : X → X → Type 0) (x : X) (xs : List X) → AllPairs R (x ∷ xs) → AllByRecursion (R x) xs
  first_of R x xs h = each (R x) xs (λ j d within. h 0 (suc j) d (omega arith) (omega arith))

  pub others_of : (R : X → X → Type 0) (x : X) (xs : List X) → AllPairs R (x ∷ xs) → AllPairs R xs
  others_of R x xs h i j d lt within = h (suc i) (suc j) d (omega arith) (omega arith)

  -- ---- whether some pass

  pub some_any : (p : X → Bool) (xs : List X) → is_some (find p xs) ≡ list_any p xs
  some_any p [] = refl
  some_any p (x ∷ xs) = elim (p x) as (λ b. is_some (cond b (Some x) (find p xs)) ≡ (b || list_any p xs)) [ true ↦ refl | false ↦ some_any p xs ]

  pub any_same : (p q : X → Bool) (xs : List X) → AllByRecursion (λ x. p x ≡ q x) xs → list_any p xs ≡ list_any q xs
  any_same p q [] h = refl
  any_same p q (x ∷ xs) h = λ i. h.0 i || any_same p q xs h.1 i

  pub any_alike : (p q : X → Bool) → ((x : X) → p x ≡ q x) → (xs : List X) → list_any p xs ≡ list_any q xs
  any_alike p q h [] = refl
  any_alike p q h (x ∷ xs) = λ i. h x i || any_alike p q h xs i

  pub any_map : {Y : Type 0} (f : X → Y) (p : Y → Bool) (xs : List X) → list_any p (map f xs) ≡ list_any (λ x. p (f x)) xs
  any_map f p [] = refl
  any_map f p (x ∷ xs) = ap (λ b. p (f x) || b) (any_map f p xs)

  pub any_kept : (p t : X → Bool) (xs : List X) → list_any t (filter p xs) ≡ list_any (λ x. p x && t x) xs
  any_kept p t [] = refl
  any_kept p t (x ∷ xs) = elim (p x) as (λ b. list_any t (cond b (x ∷ filter p xs) (filter p xs)) ≡ (b && t x || list_any (λ x. p x && t x) xs)) [
    | true ↦ ap (λ b. t x || b) (any_kept p t xs)
    | false ↦ any_kept p t xs
  ]

  pub any_either : (p q : X → Bool) (xs : List X) → list_any (λ x. p x || q x) xs ≡ (list_any p xs || list_any q xs)
  any_either p q [] = refl
  any_either p q (x ∷ xs) = ap (λ b. (p x || q x) || b) (any_either p q xs) ∙ or_swap (p x) (q x) (list_any p xs) (list_any q xs)

  none : (xs : List X) → list_any (λ x. false) xs ≡ false
  none [] = refl
  none (x ∷ xs) = none xs

  pub any_where : (b : Bool) (p : X → Bool) (xs : List X) → list_any (λ x. b && p x) xs ≡ (b && list_any p xs)
  any_where true p xs = refl
  any_where false p xs = none xs

  -- one that is found and passes another test
  pub any_by_found : (p t : X → Bool) (xs : List X) (x : X) → find p xs ≡ Some x → t x ≡ true → list_any t xs ≡ true
  any_by_found p t [] x e h = absurd (true≢false (sym (ap is_some e)))
  any_by_found p t (y ∷ ys) x e h = by (p y) e (λ later. any_by_found p t ys x later h)
    where
      by : (b : Bool) → cond b (Some y) (find p ys) ≡ Some x → (find p ys ≡ Some x → list_any t ys ≡ true) → list_any t (y ∷ ys) ≡ true
      by true is rest = ap (λ b. b || list_any t ys) (ap t (inside y x is) ∙ h)
      by false is rest = or_true (t y) (list_any t ys) (rest is)

  -- what is found passes
  pub found_passes : (p : X → Bool) (xs : List X) (x : X) → find p xs ≡ Some x → p x ≡ true
  found_passes p [] x e = absurd (true≢false (sym (ap is_some e)))
  found_passes p (y ∷ ys) x e = by (p y) refl e (found_passes p ys x)
    where
      by : (b : Bool) → p y ≡ b → cond b (Some y) (find p ys) ≡ Some x → (find p ys ≡ Some x → p x ≡ true) → p x ≡ true
      by true own is rest = ap p (sym (inside y x is)) ∙ own
      by false own is rest = rest is

  -- what holds of all holds of one that is found
  pub all_at_found : (P : X → Type 0) (p : X → Bool) (xs : List X) (x : X) → AllByRecursion P xs → find p xs ≡ Some x → P x
  all_at_found P p [] x h e = absurd (true≢false (sym (ap is_some e)))
  all_at_found P p (y ∷ ys) x h e = by (p y) e (all_at_found P p ys x h.1)
    where
      by : (b : Bool) → cond b (Some y) (find p ys) ≡ Some x → (find p ys ≡ Some x → P x) → P x
      by true is rest = subst P (inside y x is) h.0
      by false is rest = rest is

  pub none_at : (p : X → Bool) (xs : List X) → list_any p xs ≡ false → (j : ℕ) (d : X) → j < length xs → p (slice_index_or xs j d) ≡ false
  none_at p [] h j d within = absurd (omega arith)
  none_at p (x ∷ xs) h zero d within = left_no (p x) (list_any p xs) h
  none_at p (x ∷ xs) h (suc j) d within = none_at p xs (right_no (p x) (list_any p xs) h) j d (omega arith)

  -- ---- without what passes

  pub all_kept : (p : X → Bool) (xs : List X) → AllByRecursion (λ x. p x ≡ false) xs → filter (λ x. not (p x)) xs ≡ xs
  all_kept p [] h = refl
  all_kept p (x ∷ xs) h = ap (λ b. cond (not b) (x ∷ filter (λ x. not (p x)) xs) (filter (λ x. not (p x)) xs)) h.0 ∙ ap (λ l. x ∷ l) (all_kept p xs h.1)

  pub none_kept : (p : X → Bool) (xs : List X) → find p xs ≡ None → filter (λ x. not (p x)) xs ≡ xs
  none_kept p xs e = all_kept p xs (each (λ x. p x ≡ false) xs (none_at p xs (sym (some_any p xs) ∙ ap is_some e)))

  -- where no two pass, what is left without the first that passes
  pub rest_is : (p : X → Bool) (xs : List X) → AllPairs (λ a b. p a ≡ true → p b ≡ false) xs → position_or_len p xs < length xs → remove xs (position_or_len p xs) ≡ filter (λ x. not (p x)) xs
  rest_is p [] apart within = absurd (omega arith)
  rest_is p (x ∷ xs) apart within = by (p x) refl within (rest_is p xs (others_of (λ a b. p a ≡ true → p b ≡ false) x xs apart))
    where
      passing : p x ≡ true → (ys : List X) → AllByRecursion (λ b. p x ≡ true → p b ≡ false) ys → AllByRecursion (λ b. p b ≡ false) ys
      passing is [] h = tt
      passing is (y ∷ ys) h = (h.0 is, passing is ys h.1)

      by : (b : Bool) → p x ≡ b → cond (not b) (1 + position_or_len p xs) 0 < length (x ∷ xs)
          → (position_or_len p xs < length xs → remove xs (position_or_len p xs) ≡ filter (λ x. not (p x)) xs)
          → remove (x ∷ xs) (cond (not b) (1 + position_or_len p xs) 0) ≡ cond (not b) (x ∷ filter (λ x. not (p x)) xs) (filter (λ x. not (p x)) xs)
      by true is within rest = sym (all_kept p xs (passing is xs (first_of (λ a b. p a ≡ true → p b ≡ false) x xs apart)))
      by false is within rest =
          let n : 1 + position_or_len p xs ≡ suc (position_or_len p xs) = omega arith in
          ap (remove (x ∷ xs)) n ∙ ap (λ l. x ∷ l) (rest (omega arith))
