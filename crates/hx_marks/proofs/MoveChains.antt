-- Chains of namespaces that take part, and how two of them join.
--     open_there, open_apart      one that takes part is there, and its parent doesn't come back to it
--     open_chain, open_parent     its chain goes on with that of its parent, which takes part
--     open_above                  so do all above it
--     chain_split                 its chain up to one above, and the chain of that one
--     IsJoined                    from the first common member on, two chains are the same
--     joined                      so are the chains of two that take part
--     apart_in                    members of two parts of distinct names are distinct
use Rattle.std.specs.Prelude.{is_some, is_none}
use Rattle.std.proofs.Common.{◌≡◌, ℕ, zero, suc, Bool, true, false, cond, not, ◌||◌, Option, Some, None, List, [], ◌∷◌, ◌++◌, length, refl, sym, ap, ◌∙◌, subst, inl, inr, true≢false, arith, suc-ne-zero}
use Rattle.std.specs.List.{list_all, AllByRecursion, IsDistinct}
use Rattle.std.specs.Option.{option_map_or}
use Rattle.std.specs.Str.{bytes_eq}
use Rattle.std.proofs.lemmas.Bool.{and_parts, and_from, or_cases, cases_Bool}
use Rattle.std.proofs.lemmas.List.Folds.{list_any-append}
use Rattle.std.proofs.lemmas.Map.Keys.{IsDistinct-head, IsDistinct-tail}
use Rattle.hx_model.specs.declared.node.Halt.{Halt}
use Rattle.hx_model.specs.declared.node.Halt.TheVariants.{InCycle, ParentMissing, IllegalParent, Ancestor}
use Rattle.hx_model.specs.First.{so, first}
use Rattle.hx_model.specs.Forest.{Forest, is_in, is_there, is_live, is_excluded, parent_of, chain_of, in_chain, comes_back, own_halt_of, halt_of, has_halted_ancestor, tail_of}
use Rattle.hx_model.specs.Moves.{up_to, chain_from, is_open_above}
use Rattle.hx_model.specs.TreeLabels.{is_open}
use Rattle.hx_model.proofs.Climbing.{is_same, same_itself}
use Rattle.hx_model.proofs.Moving.{Steps, arrived, step}
use Rattle.hx_model.proofs.Opening.{chain_first, steps_of, halts_by_members, not_live}
use Rattle.hx_model.proofs.Parents.{out_tail, swap_same}
use Rattle.hx_model.proofs.Walking.{chain_tail, no_halt_apart, chain_there}

-- ---- one that takes part

pub live_there : (f : Forest) (m : List ℕ) → is_live f m ≡ true → is_there f m ≡ true
live_there f m h = elim (cases_Bool (is_there f m)) [
  | inl there ↦ there
  | inr out ↦ absurd (true≢false (sym h ∙ not_live f m out))
]

pub open_there : (f : Forest) (m : List ℕ) → is_open f m ≡ true → is_there f m ≡ true
open_there f m h = live_there f m (and_parts (is_live f m) _ h).0

open_unhalted : (f : Forest) (m : List ℕ) → is_open f m ≡ true → is_none (halt_of f m) ≡ true
open_unhalted f m h = (and_parts (not (is_excluded f m)) (is_none (halt_of f m)) (and_parts (is_live f m) _ h).1).1

-- it isn't halted by itself
open_good : (f : Forest) (m : List ℕ) → is_open f m ≡ true → own_halt_of f m ≡ None
open_good f m h = by (own_halt_of f m) (has_halted_ancestor f m) (open_unhalted f m h)
  where
    by : (o : Option Halt) (b : Bool) → is_none (first (o ∷ so b Ancestor ∷ [])) ≡ true → o ≡ None
    by None b e = refl
    by (Some halt) b e = absurd (true≢false (sym e))

pub open_apart : (f : Forest) (m : List ℕ) → is_open f m ≡ true → comes_back f m ≡ false
open_apart f m h = no_halt_apart f m (open_good f m h)

-- its chain goes on with that of its parent
pub open_chain : (f : Forest) (m : List ℕ) → is_open f m ≡ true → chain_of f m ≡ m ∷ chain_from f (parent_of f m)
open_chain f m h = chain_first f m (open_there f m h) ∙ ap (λ xs. m ∷ xs) (chain_tail f m (open_apart f m h))

-- its parent takes part
pub open_parent : (f : Forest) (m : List ℕ) → is_open f m ≡ true → is_open_above f (parent_of f m) ≡ true
open_parent f m h = by (parent_of f m) refl
  where
    eligible : (comes live shut : Bool) → first (so comes InCycle ∷ so (not live) ParentMissing ∷ so shut IllegalParent ∷ []) ≡ None → (live ≡ true) × (shut ≡ false)
    eligible true live shut e = absurd (true≢false (ap is_some e))
    eligible false true true e = absurd (true≢false (ap is_some e))
    eligible false true false e = (refl, refl)
    eligible false false shut e = absurd (true≢false (ap is_some e))

    tests : (next : Option (List ℕ)) → parent_of f m ≡ next
        → first (so (option_map_or (λ p. in_chain f p m) next false) InCycle ∷ so (option_map_or (λ p. not (is_live f p)) next false) ParentMissing ∷ so (option_map_or (λ p. is_excluded f p) next false) IllegalParent ∷ []) ≡ None
    tests next is = subst (λ (o : Option (List ℕ)). first (so (option_map_or (λ p. in_chain f p m) o false) InCycle ∷ so (option_map_or (λ p. not (is_live f p)) o false) ParentMissing ∷ so (option_map_or (λ p. is_excluded f p) o false) IllegalParent ∷ []) ≡ None) is (open_good f m h)

    by : (next : Option (List ℕ)) → parent_of f m ≡ next → is_open_above f next ≡ true
    by None is = refl
    by (Some q) is =
        let parts = eligible (in_chain f q m) (is_live f q) (is_excluded f q) (tests (Some q) is) in
        let whole : list_all (λ a. is_none (own_halt_of f a)) (m ∷ chain_of f q) ≡ true =
        sym (ap (list_all (λ a. is_none (own_halt_of f a))) (open_chain f m h ∙ ap (λ o. m ∷ chain_from f o) is)) ∙ sym (halts_by_members f m (open_there f m h)) ∙ open_unhalted f m h in
        let unhalted : is_none (halt_of f q) ≡ true = halts_by_members f q (live_there f q parts.0) ∙ (and_parts (is_none (own_halt_of f m)) _ whole).1 in
        and_from (is_live f q) _ parts.0 (and_from (not (is_excluded f q)) (is_none (halt_of f q)) (ap not parts.1) unhalted)

-- ---- those above it

above_parent : (f : Forest) (m q : List ℕ) → is_open f m ≡ true → parent_of f m ≡ Some q → is_open f q ≡ true
above_parent f m q h is = sym (ap (is_open_above f) is) ∙ open_parent f m h

open_steps : (f : Forest) (n m : List ℕ) (k : ℕ) → Steps f n m k → is_open f m ≡ true → is_open f n ≡ true
open_steps f n m k (arrived is there) h = subst (λ (x : List ℕ). is_open f x ≡ true) is h
open_steps f n m k (step {q = q} {k = i} there off is more) h = open_steps f n q i more (above_parent f m q h is)

-- all above it take part
pub open_above : (f : Forest) (n m : List ℕ) → in_chain f m n ≡ true → is_open f m ≡ true → is_open f n ≡ true
open_above f n m has h = let steps = steps_of f n m has in open_steps f n m steps.0 steps.1 h

-- nothing comes before n in its own chain
pub up_none : (f : Forest) (n : List ℕ) → is_there f n ≡ true → up_to n (chain_of f n) ≡ []
up_none f n there = ap (up_to n) (chain_first f n there) ∙ ap (λ b. cond b [] (n ∷ up_to n (tail_of (chain_of f n)))) (same_itself n)

split_steps : (f : Forest) (n m : List ℕ) (k : ℕ) → Steps f n m k → is_open f m ≡ true → chain_of f m ≡ up_to n (chain_of f m) ++ chain_of f n
split_steps f n m k (arrived is there) h =
    subst (λ (x : List ℕ). chain_of f x ≡ up_to n (chain_of f x) ++ chain_of f n) (sym is)
    (sym (ap (λ xs. xs ++ chain_of f n) (up_none f n (subst (λ (x : List ℕ). is_there f x ≡ true) is there))))
split_steps f n m k (step {q = q} {k = i} there off is more) h =
    let whole : chain_of f m ≡ m ∷ chain_of f q = open_chain f m h ∙ ap (λ o. m ∷ chain_from f o) is in
    let cut : up_to n (chain_of f m) ≡ m ∷ up_to n (chain_of f q) = ap (up_to n) whole ∙ ap (λ b. cond b [] (m ∷ up_to n (chain_of f q))) (swap_same m n off) in
    whole ∙ ap (λ xs. m ∷ xs) (split_steps f n q i more (above_parent f m q h is)) ∙ sym (ap (λ xs. xs ++ chain_of f n) cut)

-- its chain up to n, and the chain of n
pub chain_split : (f : Forest) (n m : List ℕ) → in_chain f m n ≡ true → is_open f m ≡ true → chain_of f m ≡ up_to n (chain_of f m) ++ chain_of f n
chain_split f n m has h = let steps = steps_of f n m has in split_steps f n m steps.0 steps.1 h

-- ---- two chains

-- from a common member on, they are the same
abbrev pub IsJoined : List (List ℕ) → List (List ℕ) → Type 0
IsJoined [] other = Unit {0}
IsJoined (a ∷ names) other = (is_in a other ≡ true → other ≡ up_to a other ++ a ∷ names) × IsJoined names other

joined_by : (k : ℕ) (f : Forest) (p q : Option (List ℕ)) → length (chain_from f p) ≡ k → is_open_above f p ≡ true → is_open_above f q ≡ true → IsJoined (chain_from f p) (chain_from f q)
joined_by k f None q long above other = tt
joined_by zero f (Some a) q long above other = absurd (suc-ne-zero _ (sym (ap length (open_chain f a above)) ∙ long))
joined_by (suc k) f (Some a) q long above other =
    subst (λ (xs : List (List ℕ)). IsJoined xs (chain_from f q)) (sym (open_chain f a above)) (
      λ has. here q other has,
      joined_by k f (parent_of f a) q (let less : suc (length (chain_from f (parent_of f a))) ≡ suc k = sym (ap length (open_chain f a above)) ∙ long in omega (arith, less)) (open_parent f a above) other,
    )
  where
    here : (next : Option (List ℕ)) → is_open_above f next ≡ true → is_in a (chain_from f next) ≡ true → chain_from f next ≡ up_to a (chain_from f next) ++ a ∷ chain_from f (parent_of f a)
    here None far has = absurd (true≢false (sym has))
    here (Some b) far has = chain_split f a b has far ∙ ap (λ xs. up_to a (chain_of f b) ++ xs) (open_chain f a above)

-- so are the chains of two that take part
pub joined : (f : Forest) (p q : Option (List ℕ)) → is_open_above f p ≡ true → is_open_above f q ≡ true → IsJoined (chain_from f p) (chain_from f q)
joined f p q above other = joined_by (length (chain_from f p)) f p q refl above other

-- ---- distinct names

pub from_distinct : (f : Forest) (p : Option (List ℕ)) → IsDistinct bytes_eq (chain_from f p)
unfolding IsDistinct
from_distinct f None = tt
from_distinct f (Some a) = (chain_there f a).distinct

none_of : (n : List ℕ) (names : List (List ℕ)) → AllByRecursion (λ a. bytes_eq n a ≡ false) names → is_in n names ≡ false
none_of n [] all = refl
none_of n (a ∷ names) all = ap (λ b. b || is_in n names) all.0 ∙ none_of n names all.1

-- a member of the first part isn't in the second
pub apart_in : (xs ys : List (List ℕ)) (z : List ℕ) → IsDistinct bytes_eq (xs ++ ys) → is_in z xs ≡ true → is_in z ys ≡ false
apart_in [] ys z distinct mem = absurd (true≢false (sym mem))
apart_in (x ∷ xs) ys z distinct mem = elim (or_cases (bytes_eq z x) (is_in z xs) mem) [
  | inl here ↦
      let out : is_in x (xs ++ ys) ≡ false = none_of x (xs ++ ys) (IsDistinct-head bytes_eq x (xs ++ ys) distinct) in
      ap (λ (a : List ℕ). is_in a ys) (is_same z x here) ∙ out_tail (is_in x xs) (is_in x ys) (sym (list_any-append (bytes_eq x) xs ys) ∙ out)
  | inr later ↦ apart_in xs ys z (IsDistinct-tail bytes_eq x (xs ++ ys) distinct) later
]
