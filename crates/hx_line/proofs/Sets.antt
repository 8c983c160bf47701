-- Lists of keys that differ.
--     without_absent, among_without    without a key;  which keys are there then
--     distinct_filter                  some of distinct keys are distinct
--     head_absent                      the first of distinct keys isn't among the others
--     pulled, same_keys                one key, and the others;  distinct keys that are the same keys
use Rattle.std.proofs.Common.{◌≡◌, Bool, true, false, not, cond, ◌&&◌, ◌||◌, List, [], ◌∷◌, filter, refl, sym, ap, subst, ◌∙◌, true≢false}
use Rattle.std.specs.List.{AllByRecursion, IsDistinct}
use Rattle.std.specs.List.Sorted.{IsPermutation}
use Rattle.std.proofs.lemmas.List.Sorted.{IsPermutation-refl, IsPermutation-sym, IsPermutation-trans, IsPermutation-cons, IsPermutation-middle}
use Rattle.std.proofs.lemmas.Map.Keys.{IsDistinct-head, IsDistinct-tail, IsDistinct-cons}
use Rattle.std.proofs.lemmas.Map.Views.{any-filter_same}
use Rattle.hx_model.specs.Keys.{same_key, is_among}
use Rattle.hx_model.specs.declared.key.Key.{Key}
use Rattle.hx_line.specs.Line.{waiting_without}
use Rattle.hx_model.proofs.SameKeys.{same_key_is, same_key_itself, same_turned}

-- ---- without a key

-- a key that isn't there
pub without_absent : (k : Key) (xs : List Key) → is_among k xs ≡ false → waiting_without xs k ≡ xs
without_absent k [] h = refl
without_absent k (x ∷ xs) h = by (same_key k x) refl (without_absent k xs)
  where
    by : (b : Bool) → same_key k x ≡ b → (is_among k xs ≡ false → waiting_without xs k ≡ xs) → waiting_without (x ∷ xs) k ≡ x ∷ xs
    by true e rest = absurd (true≢false (sym (ap (λ b. b || is_among k xs) e) ∙ h))
    by false e rest = ap (λ b. cond (not b) (x ∷ waiting_without xs k) (waiting_without xs k)) e ∙ ap (λ l. x ∷ l) (rest (sym (ap (λ b. b || is_among k xs) e) ∙ h))

-- which keys are there then
pub among_without : (k q : Key) (xs : List Key) → is_among q (waiting_without xs k) ≡ (not (same_key k q) && is_among q xs)
among_without k q xs = any-filter_same (same_key q) (λ other. not (same_key k other)) (not (same_key k q)) (λ x h. ap (λ y. not (same_key k y)) (sym (same_key_is q x h))) xs

all_filter : (P : Key → Type 0) (t : Key → Bool) (xs : List Key) → AllByRecursion P xs → AllByRecursion P (filter t xs)
all_filter P t [] h = h
all_filter P t (x ∷ xs) h = elim (t x) as (λ b. AllByRecursion P (cond b (x ∷ filter t xs) (filter t xs))) [ true ↦ (h.0, all_filter P t xs h.1) | false ↦ all_filter P t xs h.1 ]

-- some of distinct keys are distinct
pub distinct_filter : (t : Key → Bool) (xs : List Key) → IsDistinct same_key xs → IsDistinct same_key (filter t xs)
distinct_filter t [] h = h
distinct_filter t (x ∷ xs) h = elim (t x) as (λ b. IsDistinct same_key (cond b (x ∷ filter t xs) (filter t xs))) [
  | true ↦ IsDistinct-cons same_key x (filter t xs) (all_filter (λ y. same_key x y ≡ false) t xs (IsDistinct-head same_key x xs h)) (distinct_filter t xs (IsDistinct-tail same_key x xs h))
  | false ↦ distinct_filter t xs (IsDistinct-tail same_key x xs h)
]

-- the first of distinct keys isn't among the others
pub head_absent : (x : Key) (xs : List Key) → AllByRecursion (λ y. same_key x y ≡ false) xs → is_among x xs ≡ false
head_absent x [] h = refl
head_absent x (y ∷ ys) h = ap (λ b. b || is_among x ys) h.0 ∙ head_absent x ys h.1

-- one key, and the others
pub pulled : (k : Key) (ys : List Key) → IsDistinct same_key ys → is_among k ys ≡ true → IsPermutation ys (k ∷ waiting_without ys k)
pulled k [] d h = absurd (true≢false (sym h))
pulled k (y ∷ ys) d h = by (same_key k y) refl (pulled k ys (IsDistinct-tail same_key y ys d))
  where
    by : (b : Bool) → same_key k y ≡ b → (is_among k ys ≡ true → IsPermutation ys (k ∷ waiting_without ys k)) → IsPermutation (y ∷ ys) (k ∷ waiting_without (y ∷ ys) k)
    by true e rest =
        let is = same_key_is k y e in
        let others : waiting_without (y ∷ ys) k ≡ ys
        = ap (λ b. cond (not b) (y ∷ waiting_without ys k) (waiting_without ys k)) e ∙ without_absent k ys (ap (λ x. is_among x ys) is ∙ head_absent y ys (IsDistinct-head same_key y ys d)) in
        subst (IsPermutation (y ∷ ys)) (λ i. sym is i ∷ sym others i) (IsPermutation-refl (y ∷ ys))
    by false e rest =
        let later = rest (sym (ap (λ b. b || is_among k ys) e) ∙ h) in
        let front = IsPermutation-trans _ _ _ (IsPermutation-cons y _ _ later) (IsPermutation-middle (y ∷ []) k (waiting_without ys k)) in
        subst (λ l. IsPermutation (y ∷ ys) (k ∷ l)) (sym (ap (λ b. cond (not b) (y ∷ waiting_without ys k) (waiting_without ys k)) e)) front

-- distinct keys that are the same keys
pub same_keys : (xs ys : List Key) → IsDistinct same_key xs → IsDistinct same_key ys → ((q : Key) → is_among q xs ≡ is_among q ys) → IsPermutation xs ys
same_keys [] [] c d h = IsPermutation-refl []
same_keys [] (y ∷ ys) c d h = absurd (true≢false (sym (h y ∙ ap (λ b. b || is_among y ys) (same_key_itself y))))
same_keys (x ∷ xs) ys c d h =
    let there : is_among x ys ≡ true = sym (h x) ∙ ap (λ b. b || is_among x xs) (same_key_itself x) in
    let rest = same_keys xs (waiting_without ys x) (IsDistinct-tail same_key x xs c) (distinct_filter (λ other. not (same_key x other)) ys d) (λ q. by q (same_key x q) refl) in
    IsPermutation-trans _ _ _ (IsPermutation-cons x _ _ rest) (IsPermutation-sym _ _ (pulled x ys d there))
  where
    by : (q : Key) (b : Bool) → same_key x q ≡ b → is_among q xs ≡ is_among q (waiting_without ys x)
    by q true e =
        ap (λ y. is_among y xs) (sym (same_key_is x q e)) ∙ head_absent x xs (IsDistinct-head same_key x xs c)
        ∙ sym (among_without x q ys ∙ ap (λ b. not b && is_among q ys) e)
    by q false e =
        sym (ap (λ b. b || is_among q xs) (same_turned q x ∙ e)) ∙ h q
        ∙ sym (among_without x q ys ∙ ap (λ b. not b && is_among q ys) e)
