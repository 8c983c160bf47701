-- Texts, each counted once.
--     one_unless             what a text adds, by whether it is there already
--     distinct_without       a text that is there is one of those that are counted
--     same_number            texts that have the same ones are as many
use Rattle.std.proofs.Common.{◌≡◌, ℕ, ◌+◌, Bool, true, false, cond, not, ◌&&◌, ◌||◌, List, [], ◌∷◌, filter, refl, sym, ap, ◌∙◌, subst, arith, true≢false}
use Rattle.std.specs.Prelude.{if◌then◌else◌}
use Rattle.std.specs.Str.{bytes_eq}
use Rattle.std.specs.Cmp.{both_ways}
use Rattle.std.proofs.lemmas.Slice.Eq.{bytes_eq-Decides}
use Rattle.std.proofs.lemmas.Map.Views.{any-filter_same}
use Rattle.hx_model.specs.Forest.{is_in}
use Rattle.hx_model.specs.Limits.{distinct_in}

pub same_text : (a b : List ℕ) → bytes_eq a b ≡ true → a ≡ b
same_text a b = (bytes_eq-Decides a b).0

pub itself : (a : List ℕ) → bytes_eq a a ≡ true
itself a = (bytes_eq-Decides a a).1 refl

turned : (a b : List ℕ) → bytes_eq a b ≡ bytes_eq b a
turned a b = both_ways (bytes_eq a b) (bytes_eq b a) (λ h. (bytes_eq-Decides b a).1 (sym (same_text a b h))) (λ h. (bytes_eq-Decides a b).1 (sym (same_text b a h)))

abbrev without : List ℕ → List (List ℕ) → List (List ℕ)
without t texts = filter (λ q. not (bytes_eq t q)) texts

is_in_without : (t q : List ℕ) (texts : List (List ℕ)) → is_in q (without t texts) ≡ (not (bytes_eq t q) && is_in q texts)
is_in_without t q texts = any-filter_same (bytes_eq q) (λ k. not (bytes_eq t k)) (not (bytes_eq t q)) (λ k e. ap (λ z. not (bytes_eq t z)) (sym (same_text q k e))) texts

-- what a text adds, by whether it is there already
abbrev pub one_unless : Bool → ℕ
one_unless there = if there then 0 else 1

one_or_more : (b : Bool) (n : ℕ) → (if b then 0 else 1) + ((if b then 1 else 0) + n) ≡ 1 + n
one_or_more true n = omega arith
one_or_more false n = omega arith

-- a text that is there is one of those that are counted
pub distinct_without : (t : List ℕ) (texts : List (List ℕ)) → distinct_in texts ≡ (if is_in t texts then 1 else 0) + distinct_in (without t texts)
distinct_without t [] = refl
distinct_without t (q ∷ texts) =
    let rest : distinct_in texts ≡ (if is_in t texts then 1 else 0) + distinct_in (without t texts) = distinct_without t texts in
    elim (bytes_eq t q) as (λ b. bytes_eq t q ≡ b → (if is_in q texts then 0 else 1) + distinct_in texts ≡ (if b || is_in t texts then 1 else 0) + distinct_in (cond (not b) (q ∷ without t texts) (without t texts))) [
      | true ↦ λ e.
          ap (λ (k : List ℕ). (if is_in k texts then 0 else 1) + distinct_in texts) (sym (same_text t q e))
          ∙ ap (λ n. (if is_in t texts then 0 else 1) + n) rest
          ∙ one_or_more (is_in t texts) (distinct_in (without t texts))
      | false ↦ λ e.
          let kept : is_in q (without t texts) ≡ is_in q texts = is_in_without t q texts ∙ ap (λ b. not b && is_in q texts) e in
          let here : one_unless (is_in q (without t texts)) ≡ one_unless (is_in q texts) = ap one_unless kept in
          omega (arith, rest, here)
    ] refl

is_in_again : (x q : List ℕ) (xs : List (List ℕ)) → is_in x xs ≡ true → is_in q xs ≡ (bytes_eq q x || is_in q xs)
is_in_again x q xs there = elim (bytes_eq q x) as (λ b. bytes_eq q x ≡ b → is_in q xs ≡ (b || is_in q xs)) [
  | true ↦ λ e. subst (λ (k : List ℕ). is_in k xs ≡ true) (sym (same_text q x e)) there
  | false ↦ λ e. refl
] refl

is_in_rest : (x q : List ℕ) (xs : List (List ℕ)) → is_in x xs ≡ false → is_in q xs ≡ (not (bytes_eq x q) && (bytes_eq q x || is_in q xs))
is_in_rest x q xs absent = by (bytes_eq x q) refl
  where
    by : (b : Bool) → bytes_eq x q ≡ b → is_in q xs ≡ (not (bytes_eq x q) && (bytes_eq q x || is_in q xs))
    by true e = subst (λ (k : List ℕ). is_in k xs ≡ false) (same_text x q e) absent ∙ sym (ap (λ b. not b && (bytes_eq q x || is_in q xs)) e)
    by false e = sym (ap (λ b. not b && (bytes_eq q x || is_in q xs)) e ∙ ap (λ b. b || is_in q xs) (turned q x ∙ e))

-- texts that have the same ones are as many
pub same_number : (xs ys : List (List ℕ)) → ((q : List ℕ) → is_in q xs ≡ is_in q ys) → distinct_in xs ≡ distinct_in ys
same_number [] [] same = refl
same_number [] (y ∷ ys) same = absurd (true≢false (sym (same y ∙ ap (λ b. b || is_in y ys) (itself y))))
same_number (x ∷ xs) ys same =
    elim (is_in x xs) as (λ b. is_in x xs ≡ b → (if b then 0 else 1) + distinct_in xs ≡ distinct_in ys) [
      | true ↦ λ e.
          let rest : distinct_in xs ≡ distinct_in ys = same_number xs ys (λ q. is_in_again x q xs e ∙ same q) in
          omega (arith, rest)
      | false ↦ λ e.
          let there : is_in x ys ≡ true = sym (same x) ∙ ap (λ b. b || is_in x xs) (itself x) in
          let whole : distinct_in ys ≡ 1 + distinct_in (without x ys) = distinct_without x ys ∙ ap (λ b. (if b then 1 else 0) + distinct_in (without x ys)) there in
          let rest : distinct_in xs ≡ distinct_in (without x ys) = same_number xs (without x ys) (λ q. is_in_rest x q xs e ∙ ap (λ b. not (bytes_eq x q) && b) (same q) ∙ sym (is_in_without x q ys)) in
          omega (arith, whole, rest)
    ] refl
