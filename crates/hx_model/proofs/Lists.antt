-- Properties of each item of a list, and tests of its items.
--     all_more          what holds of each item, and more that follows from it
--     all_pushed        with one item more behind the others
--     all_joined, all_dropped   of two lists;  without the first items
--     all_filtered, all_kept   of those that pass a test;  and back
--     any_witness       an item that passes, of those of which something holds
--     none_passes, none_found   none passes;  and back
--     each_is_in        each item is in the list
use Rattle.std.proofs.Common.{◌≡◌, ℕ, zero, suc, drop, Bool, true, false, cond, ◌||◌, List, [], ◌∷◌, ◌++◌, filter, inl, inr, refl, sym, ap, ◌∙◌, true≢false}
use Rattle.std.specs.List.{AllByRecursion, list_any}
use Rattle.std.proofs.lemmas.Bool.{or_cases, or_left, or_right}

pub all_more : {A : Type 0} (P Q : A → Type 0) (xs : List A) → ((x : A) → P x → Q x) → AllByRecursion P xs → AllByRecursion Q xs
all_more P Q [] more all = tt
all_more P Q (x ∷ xs) more all = (more x all.0, all_more P Q xs more all.1)

pub all_pushed : {A : Type 0} (P : A → Type 0) (xs : List A) (x : A) → AllByRecursion P xs → P x → AllByRecursion P (xs ++ x ∷ [])
all_pushed P [] x all new = (new, tt)
all_pushed P (y ∷ xs) x all new = (all.0, all_pushed P xs x all.1 new)

pub all_joined : {A : Type 0} (P : A → Type 0) (xs ys : List A) → AllByRecursion P xs → AllByRecursion P ys → AllByRecursion P (xs ++ ys)
all_joined P [] ys all more = more
all_joined P (x ∷ xs) ys all more = (all.0, all_joined P xs ys all.1 more)

pub all_dropped : {A : Type 0} (P : A → Type 0) (n : ℕ) (xs : List A) → AllByRecursion P xs → AllByRecursion P (drop n xs)
all_dropped P zero xs all = all
all_dropped P (suc n) [] all = tt
all_dropped P (suc n) (x ∷ xs) all = all_dropped P n xs all.1

pub all_filtered : {A : Type 0} (P : A → Type 0) (t : A → Bool) (xs : List A) → AllByRecursion (λ x. t x ≡ true → P x) xs → AllByRecursion P (filter t xs)
all_filtered P t [] all = tt
all_filtered P t (x ∷ xs) all = elim (t x) as (λ b. t x ≡ b → AllByRecursion P (cond b (x ∷ filter t xs) (filter t xs))) [
  | true ↦ λ passes. (all.0 passes, all_filtered P t xs all.1)
  | false ↦ λ fails. all_filtered P t xs all.1
] refl

pub all_kept : {A : Type 0} (P : A → Type 0) (t : A → Bool) (xs : List A) → AllByRecursion P (filter t xs) → AllByRecursion (λ x. t x ≡ true → P x) xs
all_kept P t [] all = tt
all_kept P t (x ∷ xs) all = elim (t x) as (λ b. t x ≡ b → AllByRecursion P (cond b (x ∷ filter t xs) (filter t xs)) → AllByRecursion (λ y. t y ≡ true → P y) (x ∷ xs)) [
  | true ↦ λ passes some. (λ _. some.0, all_kept P t xs some.1)
  | false ↦ λ fails some. (λ passes. absurd (true≢false (sym passes ∙ fails)), all_kept P t xs some)
] refl all

pub any_witness : {A : Type 0} (P : A → Type 0) (t : A → Bool) (xs : List A) → AllByRecursion P xs → list_any t xs ≡ true → (x : A) × P x × (t x ≡ true)
any_witness P t [] all h = absurd (true≢false (sym h))
any_witness P t (x ∷ xs) all h = elim (or_cases (t x) (list_any t xs) h) [
  | inl here ↦ (x, all.0, here)
  | inr later ↦ any_witness P t xs all.1 later
]

pub none_passes : {A : Type 0} (t : A → Bool) (xs : List A) → list_any t xs ≡ false → AllByRecursion (λ x. t x ≡ false) xs
none_passes t [] h = tt
none_passes t (x ∷ xs) h = elim (t x) as (λ b. t x ≡ b → (b || list_any t xs) ≡ false → AllByRecursion (λ y. t y ≡ false) (x ∷ xs)) [
  | true ↦ λ _ some. absurd (true≢false some)
  | false ↦ λ fails rest. (fails, none_passes t xs rest)
] refl h

pub none_found : {A : Type 0} (t : A → Bool) (xs : List A) → AllByRecursion (λ x. t x ≡ false) xs → list_any t xs ≡ false
none_found t [] all = refl
none_found t (x ∷ xs) all = ap (λ b. b || list_any t xs) all.0 ∙ none_found t xs all.1

-- a test that an item passes finds one in the list
pub each_is_in : {A : Type 0} (xs : List A) → AllByRecursion (λ x. (t : A → Bool) → t x ≡ true → list_any t xs ≡ true) xs
each_is_in [] = tt
each_is_in (x ∷ xs) = (λ t here. or_left (t x) (list_any t xs) here, all_more _ _ xs (λ y found t later. or_right (t x) (list_any t xs) (found t later)) (each_is_in xs))
