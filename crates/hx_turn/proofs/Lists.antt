-- Lists of views, after one of them changes.
use Rattle.std.proofs.Common.{◌≡◌, ◌≢◌, ◌⊎◌, inl, inr, ⊎_elim, ℕ, zero, suc, ◌+◌, ◌<◌, ◌≤◌, Bool, true, false, cond, List, [], ◌∷◌, ◌++◌, length, set, eqb, eq-eqb, ne_eqb, refl, sym, ap, subst, ◌∙◌, append_assoc, append-nil, arith}
use mathlib.Core.Option.{some, some-injective, some-ne-none}
use mathlib.Core.List.{IsPrefix}
use native.Mathlib.Decide.{ℕ_discrete}
use mathlib.Core.Logic.{dite}
use lib.ListN.{get_elem?}
use Rattle.atomic_table.proofs.Lists.{at_set, set_else}
use Rattle.hx_turn.specs.Passes.{carrying}
use Rattle.hx_turn.specs.Rule.{total}

module _ {X : Type 0} where
  pub total_set : (f : X → ℕ) (xs : List X) (i : ℕ) (x y : X) → get_elem? xs i ≡ some x → total f (set xs i y) + f x ≡ total f xs + f y
  total_set f [] i x y e = absurd (some-ne-none x (sym e))
  total_set f (z ∷ zs) zero x y e = let s = ap f (some-injective z x e) in omega (arith, s)
  total_set f (z ∷ zs) (suc i) x y e = omega (arith, total_set f zs i x y e)

  pub total_le : (f g : X → ℕ) (xs : List X) → ((i : ℕ) (x : X) → get_elem? xs i ≡ some x → f x ≤ g x) → total f xs ≤ total g xs
  total_le f g [] h = omega arith
  total_le f g (x ∷ xs) h = omega (arith, h 0 x refl, total_le f g xs (λ i y e. h (suc i) y e))

  pub each_set : (P : X → Type 0) (xs : List X) (id : ℕ) (w : X) → ((i : ℕ) (x : X) → i ≢ id → get_elem? xs i ≡ some x → P x) → P w
      → (i : ℕ) (x : X) → get_elem? (set xs id w) i ≡ some x → P x
  each_set P xs id w others here i x e = ⊎_elim (λ t. subst P t.1 here) (λ t. others i x t.0 t.1) (at_set xs id i w x e)

  pub pairs_set : (P : ℕ → ℕ → X → X → Type 0) (xs : List X) (id : ℕ) (w : X) → ((i j : ℕ) (x y : X) → get_elem? xs i ≡ some x → get_elem? xs j ≡ some y → P i j x y)
      → ((j : ℕ) (y : X) → j ≢ id → get_elem? xs j ≡ some y → P id j w y × P j id y w) → P id id w w
      → (i j : ℕ) (x y : X) → get_elem? (set xs id w) i ≡ some x → get_elem? (set xs id w) j ≡ some y → P i j x y
  pairs_set P xs id w all others here i j x y ei ej = ⊎_elim
      (λ s. ⊎_elim
      (λ t. subst (λ a. P i j a y) s.1 (subst (λ b. P i j w b) t.1 (subst (λ a. P a j w w) (sym s.0) (subst (λ b. P id b w w) (sym t.0) here))))
      (λ t. subst (λ a. P i j a y) s.1 (subst (λ a. P a j w y) (sym s.0) (others j y t.0 t.1).0))
      (at_set xs id j w y ej))
      (λ s. ⊎_elim
      (λ t. subst (λ b. P i j x b) t.1 (subst (λ b. P i b x w) (sym t.0) (others i x s.0 s.1).1))
      (λ t. all i j x y s.1 t.1)
      (at_set xs id j w y ej))
      (at_set xs id i w x ei)

  pub each_unset : (P : X → Type 0) (xs : List X) (id : ℕ) (v w : X) → get_elem? xs id ≡ some v → P v → ((i : ℕ) (x : X) → get_elem? (set xs id w) i ≡ some x → P x)
      → (i : ℕ) (x : X) → get_elem? xs i ≡ some x → P x
  each_unset P xs id v w at here h i x e = dite (ℕ_discrete i id)
      (λ same. subst P (some-injective v x (sym at ∙ subst (λ j. get_elem? xs j ≡ some x) same e)) here)
      (λ ne. h i x (set_else xs id i w ne ∙ e))

  pub total_snoc : (f : X → ℕ) (xs : List X) (x : X) → total f (xs ++ x ∷ []) ≡ total f xs + f x
  total_snoc f [] x = omega arith
  total_snoc f (y ∷ ys) x = omega (arith, total_snoc f ys x)

  -- an item of a longer list: one that was there, or the last
  pub last_or : (xs : List X) (z : X) (i : ℕ) (x : X) → get_elem? (xs ++ z ∷ []) i ≡ some x → (get_elem? xs i ≡ some x) ⊎ ((i ≡ length xs) × (z ≡ x))
  last_or [] z zero x e = inr (refl, some-injective z x e)
  last_or [] z (suc i) x e = absurd (some-ne-none x (sym e))
  last_or (y ∷ ys) z zero x e = inl e
  last_or (y ∷ ys) z (suc i) x e = ⊎_elim inl (λ t. inr (ap suc t.0, t.1)) (last_or ys z i x e)

  pub each_snoc : (P : X → Type 0) (xs : List X) (z : X) → ((i : ℕ) (x : X) → get_elem? xs i ≡ some x → P x) → P z → (i : ℕ) (x : X) → get_elem? (xs ++ z ∷ []) i ≡ some x → P x
  each_snoc P xs z all here i x e = ⊎_elim (λ h. all i x h) (λ t. subst P t.1 here) (last_or xs z i x e)

  pub pairs_snoc : (P : ℕ → ℕ → X → X → Type 0) (xs : List X) (z : X) → ((i j : ℕ) (x y : X) → get_elem? xs i ≡ some x → get_elem? xs j ≡ some y → P i j x y)
      → ((j : ℕ) (y : X) → get_elem? xs j ≡ some y → P (length xs) j z y × P j (length xs) y z) → P (length xs) (length xs) z z
      → (i j : ℕ) (x y : X) → get_elem? (xs ++ z ∷ []) i ≡ some x → get_elem? (xs ++ z ∷ []) j ≡ some y → P i j x y
  pairs_snoc P xs z all others here i j x y ei ej = ⊎_elim
      (λ s. ⊎_elim
      (λ t. all i j x y s t)
      (λ t. subst (λ b. P i j x b) t.1 (subst (λ b. P i b x z) (sym t.0) (others i x s).1))
      (last_or xs z j y ej))
      (λ s. ⊎_elim
      (λ t. subst (λ a. P i j a y) s.1 (subst (λ a. P a j z y) (sym s.0) (others j y t).0))
      (λ t. subst (λ a. P i j a y) s.1 (subst (λ b. P i j z b) t.1 (subst (λ a. P a j z z) (sym s.0) (subst (λ b. P (length xs) b z z) (sym t.0) here))))
      (last_or xs z j y ej))
      (last_or xs z i x ei)

  at_most : (f : X → ℕ) (xs : List X) (i : ℕ) (x : X) → get_elem? xs i ≡ some x → f x ≤ total f xs
  at_most f [] i x e = absurd (some-ne-none x (sym e))
  at_most f (z ∷ zs) zero x e = let s = ap f (some-injective z x e) in omega (arith, s)
  at_most f (z ∷ zs) (suc i) x e = omega (arith, at_most f zs i x e)

  pub two_at_most : (f : X → ℕ) (xs : List X) (i j : ℕ) (x y : X) → i ≢ j → get_elem? xs i ≡ some x → get_elem? xs j ≡ some y → f x + f y ≤ total f xs
  two_at_most f [] i j x y ne ei ej = absurd (some-ne-none x (sym ei))
  two_at_most f (z ∷ zs) zero zero x y ne ei ej = absurd (ne refl)
  two_at_most f (z ∷ zs) zero (suc j) x y ne ei ej = let s = ap f (some-injective z x ei) in omega (arith, s, at_most f zs j y ej)
  two_at_most f (z ∷ zs) (suc i) zero x y ne ei ej = let s = ap f (some-injective z y ej) in omega (arith, s, at_most f zs i x ei)
  two_at_most f (z ∷ zs) (suc i) (suc j) x y ne ei ej = omega (arith, two_at_most f zs i j x y (λ q. ne (ap suc q)) ei ej)

  pub there : (xs : List X) (i : ℕ) (x : X) → get_elem? xs i ≡ some x → i < length xs
  there [] i x e = absurd (some-ne-none x (sym e))
  there (y ∷ ys) zero x e = omega arith
  there (y ∷ ys) (suc i) x e = let h = there ys i x e in omega arith

  pub longer : (xs ys : List X) (z : X) → IsPrefix xs ys → IsPrefix xs (ys ++ z ∷ [])
  longer xs ys z p = (p.0 ++ z ∷ [], sym (append_assoc xs p.0 (z ∷ [])) ∙ ap (λ l. l ++ z ∷ []) p.1)

  pub whole : (xs : List X) → IsPrefix xs xs
  whole xs = ([], append-nil xs)

module _ {E : Type 0} where
  carrying_snoc : (n : ℕ) (es : List (ℕ × E)) (e : ℕ × E) → carrying n (es ++ e ∷ []) ≡ carrying n es ++ carrying n (e ∷ [])
  carrying_snoc n [] e = refl
  carrying_snoc n (d ∷ es) e = by (eqb n d.0) (carrying_snoc n es e)
    where
      by : (b : Bool) → carrying n (es ++ e ∷ []) ≡ carrying n es ++ carrying n (e ∷ [])
          → cond b (d ∷ carrying n (es ++ e ∷ [])) (carrying n (es ++ e ∷ [])) ≡ cond b (d ∷ carrying n es) (carrying n es) ++ carrying n (e ∷ [])
      by true h = ap (λ l. d ∷ l) h
      by false h = h

  pub carrying_own : (n : ℕ) (es : List (ℕ × E)) (x : E) → carrying n (es ++ (n, x) ∷ []) ≡ carrying n es ++ (n, x) ∷ []
  carrying_own n es x = carrying_snoc n es (n, x) ∙ ap (λ b. carrying n es ++ cond b ((n, x) ∷ []) []) (eq-eqb n n refl)

  pub carrying_other : (n m : ℕ) (es : List (ℕ × E)) (x : E) → n ≢ m → carrying n (es ++ (m, x) ∷ []) ≡ carrying n es
  carrying_other n m es x ne = carrying_snoc n es (m, x) ∙ ap (λ b. carrying n es ++ cond b ((m, x) ∷ []) []) (ne_eqb n m ne) ∙ append-nil (carrying n es)
