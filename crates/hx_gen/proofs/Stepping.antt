-- What is left at each step.
use Rattle.std.specs.Prelude.{◌<◌, ◌-◌, ◌%◌, flat_map}
use Rattle.std.proofs.Common.{◌≡◌, ℕ, suc, zero, ◌+◌, List, [], ◌∷◌, ◌++◌, Option, Some, None, refl, ap, sym, ◌∙◌, arith, subst}
use Rattle.std.specs.List.{range_with_len}
use Rattle.hx_model.specs.declared.ask.Ask.{Ask}
use Rattle.hx_gen.specs.declared.step.Step.{Step}
use Rattle.hx_gen.specs.declared.step.Step.TheVariants as step
use Rattle.hx_gen.specs.Draws.{next_number, number_after, draw_of, parent_of}
use Rattle.hx_gen.specs.Asked.{asks_of, namespace_ask, role_ask, pod_ask, tree_asks, IsNext}
use Rattle.hx_gen.specs.Left.{ask_at, left_at, objects_left, tree_left, with_first}

-- ---- one place

tree_one : (x i left : ℕ) → 0 < left → tree_left x i left ≡ tree_asks i (draw_of x % i) ++ tree_left (next_number x) (i + 1) (left - 1)
tree_one x i zero more = absurd (omega arith)
tree_one x i (suc left) more = let e : suc left - 1 ≡ left = omega arith in rw e refl

objects_one : (i left : ℕ) → 0 < left → objects_left i left ≡ role_ask i ∷ pod_ask i ∷ objects_left (i + 1) (left - 1)
objects_one i zero more = absurd (omega arith)
objects_one i (suc left) more = let e : suc left - 1 ≡ left = omega arith in rw e refl

tree_more : (x i count : ℕ) → i < count → tree_left x i (count - i) ≡ tree_asks i (draw_of x % i) ++ tree_left (next_number x) (i + 1) (count - (i + 1))
tree_more x i count within = let e : count - i - 1 ≡ count - (i + 1) = omega arith in
    tree_one x i (count - i) (omega arith) ∙ ap (λ left. tree_asks i (draw_of x % i) ++ tree_left (next_number x) (i + 1) left) e

objects_more : (i count : ℕ) → i < count → objects_left i (count - i) ≡ role_ask i ∷ pod_ask i ∷ objects_left (i + 1) (count - (i + 1))
objects_more i count within = let e : count - i - 1 ≡ count - (i + 1) = omega arith in
    objects_one i (count - i) (omega arith) ∙ ap (λ left. role_ask i ∷ pod_ask i ∷ objects_left (i + 1) left) e

-- ---- steps

-- the first namespace has no parent
pub behind_first : (x count : ℕ) → 0 < count → left_at count (step.Namespace 0 x) ≡ namespace_ask 0 ∷ (tree_left (next_number x) 1 (count - 1) ++ objects_left 0 count)
unfolding left_at
behind_first x count within = ap (λ asks. asks ++ objects_left 0 count) (tree_more x 0 count within)

pub behind_later : (x i count : ℕ) → i < count → 0 < i → left_at count (step.Namespace i x) ≡ namespace_ask i ∷ left_at count (step.Hierarchy i x (draw_of x % i))
unfolding left_at
behind_later x zero count within later = absurd (omega arith)
behind_later x (suc i) count within later = ap (λ asks. asks ++ objects_left 0 count) (tree_more x (suc i) count within)

pub behind_role : (i count : ℕ) → i < count → left_at count (step.Role i) ≡ role_ask i ∷ left_at count (step.Pod i)
unfolding left_at
behind_role i count within = objects_more i count within

-- nothing is asked at the end alone
ended : (count : ℕ) (s : Step) → ask_at s ≡ None → left_at count s ≡ []
unfolding left_at
ended count (step.Namespace i x) none = cc
ended count (step.Hierarchy i x parent) none = cc
ended count (step.Role i) none = cc
ended count (step.Pod i) none = cc
ended count step.End none = refl

-- the step's own ask comes first
pub next_is : (next : Option Ask) (count : ℕ) (s : Step) (old new : List Ask) → next ≡ ask_at s → left_at count s ≡ old → left_at count s ≡ with_first (ask_at s) new → IsNext next old new
next_is None count s old new is view left =
    let all = left ∙ ap (λ o. with_first o new) (sym is) in
    let none = ended count s (sym is) in
    (sym view ∙ none, sym all ∙ none)
next_is (Some ask) count s old new is view left = sym view ∙ left ∙ ap (λ o. with_first o new) (sym is)

-- ---- the whole

on : (number i left : ℕ) → tree_left (number_after number i) i left ≡ flat_map (λ i. tree_asks i (parent_of number i)) (range_with_len i left)
on number i zero = refl
on number i (suc left) = let e : suc i ≡ i + 1 = omega arith in
    ap (λ asks. tree_asks i (parent_of number i) ++ asks) (subst (λ j. tree_left (number_after number j) (i + 1) left ≡ flat_map (λ k. tree_asks k (parent_of number k)) (range_with_len (i + 1) left)) (sym e) (on number (i + 1) left))

pub whole : (number count : ℕ) → tree_left number 0 (count - 0) ++ objects_left 0 count ≡ asks_of number count
unfolding asks_of
whole number count = let e : count - 0 ≡ count = omega arith in rw e (ap (λ asks. asks ++ objects_left 0 count) (on number 0 count))
