-- What walks up the parents tell of chains.
--     walk_has_chain       whether a walk passes a name is whether its chain has it
--     walk_to_has          a walk that comes to a name passes it
--     walk_ends_length     where a walk has ended, as many namespaces as it passed are in the chain
--     walk_halts_above     whether an ancestor is halted by itself
use Rattle.std.specs.Prelude.{is_some, option_and_then}
use Rattle.std.proofs.Common.{◌≡◌, ℕ, zero, suc, ◌+◌, ◌≤◌, Bool, true, false, cond, not, ◌&&◌, ◌||◌, Option, Some, None, option_map, List, [], ◌∷◌, ◌++◌, length, filter, refl, sym, ap, ◌∙◌, subst, inl, inr, arith, length-append, true≢false}
use Rattle.std.specs.List.{list_any, AllByRecursion, IsDistinct}
use Rattle.std.specs.Str.{bytes_eq}
use Rattle.std.proofs.lemmas.Bool.{and_parts, and_from, or_cases, or_left, or_right, cases_Bool, false_from_ne_true}
use Rattle.std.proofs.lemmas.Bool.Decides.{same_from_decides}
use Rattle.std.proofs.lemmas.Option.{none-some, same_Some}
use Rattle.std.proofs.lemmas.List.Folds.{list_any-append}
use Rattle.std.proofs.lemmas.Map.Keys.{IsDistinct-cons, IsDistinct-head, IsDistinct-tail}
use Rattle.std.proofs.lemmas.Map.Made.{is_some-lookup}
use Rattle.std.specs.Option.{option_map_or}
use Rattle.hx_model.specs.First.{so, first}
use Rattle.hx_model.specs.declared.node.Node.{Node}
use Rattle.hx_model.specs.declared.node.Halt.TheVariants.{InCycle, ParentMissing, IllegalParent}
use Rattle.hx_model.specs.Forest.{Forest, is_in, names_of, node_of, is_there, is_live, is_excluded, parent_of, chain_of, in_chain, comes_back, own_halt_of, tail_of, has_halted_ancestor}
use Rattle.hx_model.specs.Walks.{walk_has, walk_to, walk_ends, walk_halts, length_from}
pub use Rattle.hx_model.specs.Moves.{chain_from}
use Rattle.hx_model.proofs.Climbing.{Climbs, at_top, stopped, onward, chain-Climbs, AreThere, AreThere-push, none_there, few, Above, itself, through, chain_above, above_chain, is_same, same_itself}
use Rattle.hx_model.proofs.Parents.{up_to_all, chain_alone, chain_parent}

-- two answers that follow from each other are the same
pub both : (r s : Bool) → (r ≡ true → s ≡ true) → (s ≡ true → r ≡ true) → r ≡ s
both r s to from = same_from_decides {P = s ≡ true} r s (to, from) (λ h. h, λ h. h)

-- equality of names reads alike from both sides
pub same_flips : (a b : List ℕ) → bytes_eq a b ≡ bytes_eq b a
same_flips a b = both (bytes_eq a b) (bytes_eq b a) (turn a b) (turn b a)
  where
    turn : (x y : List ℕ) → bytes_eq x y ≡ true → bytes_eq y x ≡ true
    turn x y h = subst (λ (z : List ℕ). bytes_eq y z ≡ true) (sym (is_same x y h)) (same_itself y)

-- a member that passes
pub passes_in : (t : List ℕ → Bool) (a : List ℕ) (xs : List (List ℕ)) → is_in a xs ≡ true → t a ≡ true → list_any t xs ≡ true
passes_in t a [] mem passes = absurd (true≢false (sym mem))
passes_in t a (x ∷ xs) mem passes = elim (or_cases (bytes_eq a x) (is_in a xs) mem) [
  | inl is ↦ or_left (t x) (list_any t xs) (subst (λ (y : List ℕ). t y ≡ true) (is_same a x is) passes)
  | inr later ↦ or_right (t x) (list_any t xs) (passes_in t a xs later passes)
]

-- ---- a walk that passes one of some names

-- whether the walk passes a name that the test takes
abbrev pub walk_any : (List ℕ → Bool) → ℕ → Forest → Option (List ℕ) → Bool
walk_any t zero f next = false
walk_any t (suc left) f None = false
walk_any t (suc left) f (Some n) = is_there f n && (t n || walk_any t left f (parent_of f n))

abbrev AnyAbove : (List ℕ → Bool) → Forest → Option (List ℕ) → Type 0
AnyAbove t f None = ⊥
AnyAbove t f (Some n) = (a : List ℕ) × Above f n a × (t a ≡ true)

from_parent : (t : List ℕ → Bool) (f : Forest) (n : List ℕ) (next : Option (List ℕ)) → is_there f n ≡ true → parent_of f n ≡ next → AnyAbove t f next → AnyAbove t f (Some n)
from_parent t f n None there is h = absurd h
from_parent t f n (Some p) there is h = (h.0, through there is h.1, h.2)

any_above : (t : List ℕ → Bool) (left : ℕ) (f : Forest) (next : Option (List ℕ)) → walk_any t left f next ≡ true → AnyAbove t f next
any_above t zero f next h = absurd (true≢false (sym h))
any_above t (suc left) f None h = absurd (true≢false (sym h))
any_above t (suc left) f (Some n) h =
    let parts = and_parts (is_there f n) (t n || walk_any t left f (parent_of f n)) h in
    elim (or_cases (t n) (walk_any t left f (parent_of f n)) parts.1) [
      | inl here ↦ (n, itself parts.0, here)
      | inr far ↦ from_parent t f n (parent_of f n) parts.0 refl (any_above t left f (parent_of f n) far)
    ]

-- a list that grows keeps its names distinct namespaces
grown_there : (f : Forest) (built : List (List ℕ)) (next : Option (List ℕ)) (all : List (List ℕ)) → Climbs f built next all → AreThere f built → AreThere f all
grown_there f built None all at_top fine = fine
grown_there f built (Some n) all (stopped stops) fine = fine
grown_there f built (Some n) all (onward goes rest) fine = grown_there f (built ++ n ∷ []) (parent_of f n) all rest (AreThere-push f built n goes fine)

-- a chain is of distinct namespaces
pub chain_there : (f : Forest) (n : List ℕ) → AreThere f (chain_of f n)
chain_there f n = grown_there f [] (Some n) (chain_of f n) (chain-Climbs f n) (none_there f)

pub longer : (f : Forest) (built : List (List ℕ)) (next : Option (List ℕ)) (all : List (List ℕ)) → Climbs f built next all → length built ≤ length all
longer f built None all at_top = omega arith
longer f built (Some n) all (stopped stops) = omega arith
longer f built (Some n) all (onward goes rest) = omega (arith, longer f (built ++ n ∷ []) (parent_of f n) all rest, length-append built (n ∷ []))

walk_finds : (t : List ℕ → Bool) (left : ℕ) (f : Forest) (built : List (List ℕ)) (next : Option (List ℕ)) (all : List (List ℕ)) → Climbs f built next all
    → length all ≤ left + length built → list_any t built ≡ false → list_any t all ≡ true → walk_any t left f next ≡ true
walk_finds t left f built None all at_top enough none some = absurd (true≢false (sym some ∙ none))
walk_finds t left f built (Some n) all (stopped stops) enough none some = absurd (true≢false (sym some ∙ none))
walk_finds t zero f built (Some n) all (onward goes rest) enough none some = absurd (omega (arith, longer f (built ++ n ∷ []) (parent_of f n) all rest, length-append built (n ∷ [])))
walk_finds t (suc left) f built (Some n) all (onward goes rest) enough none some =
    and_from (is_there f n) (t n || walk_any t left f (parent_of f n)) (and_parts (is_there f n) (not (is_in n built)) goes).0 (elim (cases_Bool (t n)) [
      | inl here ↦ or_left (t n) (walk_any t left f (parent_of f n)) here
      | inr not_here ↦ or_right (t n) (walk_any t left f (parent_of f n)) (walk_finds t left f (built ++ n ∷ []) (parent_of f n) all rest (omega (arith, enough, length-append built (n ∷ []))) (none_yet not_here) some)
    ])
  where
    none_yet : t n ≡ false → list_any t (built ++ n ∷ []) ≡ false
    none_yet out = list_any-append t built (n ∷ []) ∙ ap (λ b. b || (t n || false)) none ∙ ap (λ b. b || false) out

-- what a walk passes is what the chain has
pub walk_any_chain : (t : List ℕ → Bool) (f : Forest) (n : List ℕ) → walk_any t (length f) f (Some n) ≡ list_any t (chain_of f n)
walk_any_chain t f n = both (walk_any t (length f) f (Some n)) (list_any t (chain_of f n))
    (λ h. let found = any_above t (length f) f (Some n) h in passes_in t found.0 (chain_of f n) (above_chain f n found.0 found.1) found.2)
    (λ h. walk_finds t (length f) f [] (Some n) (chain_of f n) (chain-Climbs f n) (omega (arith, few f (chain_of f n) (chain_there f n))) refl h)

-- ---- whether a walk passes a name

walk_has_any : (left : ℕ) (f : Forest) (next : Option (List ℕ)) (a : List ℕ) → walk_has left f next a ≡ walk_any (λ m. bytes_eq m a) left f next
walk_has_any zero f next a = refl
walk_has_any (suc left) f None a = refl
walk_has_any (suc left) f (Some n) a = ap (λ b. is_there f n && (bytes_eq n a || b)) (walk_has_any left f (parent_of f n) a)

flipped : (a : List ℕ) (xs : List (List ℕ)) → list_any (λ m. bytes_eq m a) xs ≡ is_in a xs
flipped a [] = refl
flipped a (x ∷ xs) = ap (λ b. b || list_any (λ m. bytes_eq m a) xs) (same_flips x a) ∙ ap (λ b. bytes_eq a x || b) (flipped a xs)

-- as many steps as the forest has namespaces tell whether a is in the chain of n
pub walk_has_chain : (f : Forest) (n a : List ℕ) → walk_has (length f) f (Some n) a ≡ in_chain f n a
walk_has_chain f n a = walk_has_any (length f) f (Some n) a ∙ walk_any_chain (λ m. bytes_eq m a) f n ∙ flipped a (chain_of f n)

-- ---- how far

counted : (o : Option ℕ) → is_some (option_map (λ k. suc k) o) ≡ is_some o
counted None = refl
counted (Some k) = refl

-- a walk that comes to a passes a
pub walk_to_has : (left : ℕ) (f : Forest) (next : Option (List ℕ)) (a : List ℕ) → is_some (walk_to left f next a) ≡ walk_has left f next a
walk_to_has zero f next a = refl
walk_to_has (suc left) f None a = refl
walk_to_has (suc left) f (Some n) a = elim (is_there f n) as (λ b. is_some (cond b (cond (bytes_eq n a) (Some 0) (option_map (λ k. suc k) (walk_to left f (parent_of f n) a))) None) ≡ (b && (bytes_eq n a || walk_has left f (parent_of f n) a))) [
  | true ↦ elim (bytes_eq n a) as (λ b. is_some (cond b (Some 0) (option_map (λ k. suc k) (walk_to left f (parent_of f n) a))) ≡ (b || walk_has left f (parent_of f n) a)) [
    | true ↦ refl
    | false ↦ counted (walk_to left f (parent_of f n) a) ∙ walk_to_has left f (parent_of f n) a
  ]
  | false ↦ refl
]

-- ---- walks that end

-- the walk from there ends after so many namespaces
pub data Ends (f : Forest) : Option (List ℕ) → ℕ → Type 0 where
  past_top : Ends f None 0
  missing : {n : List ℕ} → is_there f n ≡ false → Ends f (Some n) 0
  passing : {n : List ℕ} {k : ℕ} → is_there f n ≡ true → Ends f (parent_of f n) k → Ends f (Some n) (suc k)

Ends-at : (f : Forest) (next : Option (List ℕ)) (j k : ℕ) → j ≡ k → Ends f next j → Ends f next k
Ends-at f next j k is h = subst (λ (i : ℕ). Ends f next i) is h

one_more : (f : Forest) (n : List ℕ) (k : ℕ) (o : Option ℕ) → is_there f n ≡ true → ((i : ℕ) → o ≡ Some i → Ends f (parent_of f n) i) → option_map (λ i. suc i) o ≡ Some k → Ends f (Some n) k
one_more f n k None there on e = absurd (none-some k e)
one_more f n k (Some i) there on e = Ends-at f (Some n) (suc i) k (same_Some (suc i) k e) (passing there (on i refl))

-- a walk that has ended by then ends
pub walk_ends_Ends : (left : ℕ) (f : Forest) (next : Option (List ℕ)) (k : ℕ) → walk_ends left f next ≡ Some k → Ends f next k
walk_ends_Ends zero f next k h = absurd (none-some k h)
walk_ends_Ends (suc left) f None k h = Ends-at f None 0 k (same_Some 0 k h) past_top
walk_ends_Ends (suc left) f (Some n) k h =
    elim (is_there f n) as (λ b. is_there f n ≡ b → cond b (option_map (λ i. suc i) (walk_ends left f (parent_of f n))) (Some 0) ≡ Some k → Ends f (Some n) k) [
      | true ↦ λ there e. one_more f n k (walk_ends left f (parent_of f n)) there (λ i gives. walk_ends_Ends left f (parent_of f n) i gives) e
      | false ↦ λ out e. Ends-at f (Some n) 0 k (same_Some 0 k e) (missing out)
    ] refl h

one_length : (f : Forest) (next : Option (List ℕ)) (j k : ℕ) → Ends f next j → Ends f next k → j ≡ k
one_length f None j k past_top past_top = refl
one_length f (Some n) j k (missing out) (missing _) = refl
one_length f (Some n) j k (missing out) (passing there _) = absurd (true≢false (sym there ∙ out))
one_length f (Some n) j k (passing there _) (missing out) = absurd (true≢false (sym there ∙ out))
one_length f (Some n) j k (passing {k = i} _ left) (passing {k = l} _ right) = ap (λ m. suc m) (one_length f (parent_of f n) i l left right)

-- the walk from one above is no longer
pub shorter_above : (f : Forest) (n a : List ℕ) (k : ℕ) → Above f n a → Ends f (Some n) k → (j : ℕ) × (j ≤ k) × Ends f (Some a) j
shorter_above f n a k (itself there) ends = (k, omega arith, ends)
shorter_above f n a k (through there is rest) (missing out) = absurd (true≢false (sym there ∙ out))
shorter_above f n a k (through {p = p} there is rest) (passing {k = i} _ ends) =
    let on = shorter_above f p a i rest (subst (λ (o : Option (List ℕ)). Ends f o i) is ends) in
    (on.0, omega (arith, on.1), on.2)

-- who is on a walk that ends isn't above its own parent
pub not_above_parent : (f : Forest) (n p : List ℕ) (k : ℕ) → Ends f (Some n) (suc k) → Ends f (Some p) k → in_chain f p n ≡ false
not_above_parent f n p k ends on = false_from_ne_true (in_chain f p n) (λ h.
    let above = shorter_above f p n k (chain_above f p n h) on in
    omega (arith, above.1, one_length f (Some n) (suc k) above.0 ends above.2))

-- where n isn't there, its chain is empty
pub chain_missing : (f : Forest) (n : List ℕ) → is_there f n ≡ false → chain_of f n ≡ []
chain_missing f n out = ends_at (chain_of f n) (chain-Climbs f n)
  where
    ends_at : (all : List (List ℕ)) → Climbs f [] (Some n) all → all ≡ []
    ends_at all (stopped stops) = refl
    ends_at all (onward goes rest) = absurd (true≢false (sym (and_parts (is_there f n) true goes).0 ∙ out))

chain_on : (f : Forest) (n : List ℕ) (k : ℕ) → is_there f n ≡ true → (next : Option (List ℕ)) → parent_of f n ≡ next → Ends f next k → length_from f next ≡ k → length (chain_of f n) ≡ suc k
chain_on f n k there None is ends long = ap length (chain_alone f n there is) ∙ ap (λ m. suc m) long
chain_on f n k there (Some p) is ends long =
    let apart : in_chain f p n ≡ false = not_above_parent f n p k (passing there (subst (λ (o : Option (List ℕ)). Ends f o k) (sym is) ends)) ends in
    ap length (chain_parent f n p there is ∙ ap (λ xs. n ∷ xs) (up_to_all n (chain_of f p) apart)) ∙ ap (λ m. suc m) long

-- a walk that ends passes the chain, and repeats nothing
pub Ends_length : (f : Forest) (next : Option (List ℕ)) (k : ℕ) → Ends f next k → length_from f next ≡ k
Ends_length f None k past_top = refl
Ends_length f (Some n) k (missing out) = ap length (chain_missing f n out)
Ends_length f (Some n) k (passing {k = i} there ends) = chain_on f n i there (parent_of f n) refl ends (Ends_length f (parent_of f n) i ends)

-- the walk's count, where it has ended, whatever number of steps it was given
pub walk_ends_length : (left : ℕ) (f : Forest) (n : List ℕ) (k : ℕ) → walk_ends left f (Some n) ≡ Some k → length (chain_of f n) ≡ k
walk_ends_length left f n k h = Ends_length f (Some n) k (walk_ends_Ends left f (Some n) k h)

-- ---- the length of a chain by counting

-- a namespace is there exactly if its name is among the names
pub names_have : (f : Forest) (a : List ℕ) → is_there f a ≡ is_in a (names_of f)
names_have f a = is_some-lookup (bytes_eq a) f

all_filter : (P : List ℕ → Type 0) (t : List ℕ → Bool) (xs : List (List ℕ)) → AllByRecursion P xs → AllByRecursion P (filter t xs)
all_filter P t [] h = h
all_filter P t (x ∷ xs) h = elim (t x) as (λ b. AllByRecursion P (cond b (x ∷ filter t xs) (filter t xs))) [ true ↦ (h.0, all_filter P t xs h.1) | false ↦ all_filter P t xs h.1 ]

-- some of distinct names are distinct
pub IsDistinct-filter : (t : List ℕ → Bool) (xs : List (List ℕ)) → IsDistinct bytes_eq xs → IsDistinct bytes_eq (filter t xs)
IsDistinct-filter t [] h = h
IsDistinct-filter t (x ∷ xs) h = elim (t x) as (λ b. IsDistinct bytes_eq (cond b (x ∷ filter t xs) (filter t xs))) [
  | true ↦ IsDistinct-cons bytes_eq x (filter t xs) (all_filter (λ y. bytes_eq x y ≡ false) t xs (IsDistinct-head bytes_eq x xs h)) (IsDistinct-filter t xs (IsDistinct-tail bytes_eq x xs h))
  | false ↦ IsDistinct-filter t xs (IsDistinct-tail bytes_eq x xs h)
]

-- ---- halted ancestors

walk_any_none : (t : List ℕ → Bool) (left : ℕ) (f : Forest) → walk_any t left f None ≡ false
walk_any_none t zero f = refl
walk_any_none t (suc left) f = refl

walk_any_from : (t : List ℕ → Bool) (f : Forest) (next : Option (List ℕ)) → walk_any t (length f) f next ≡ list_any t (chain_from f next)
walk_any_from t f None = walk_any_none t (length f) f
walk_any_from t f (Some p) = walk_any_chain t f p

-- where n isn't there, it names no parent
pub no_parent : (f : Forest) (n : List ℕ) → is_there f n ≡ false → parent_of f n ≡ None
no_parent f n out = absent (node_of f n) out
  where
    absent : (o : Option Node) → is_some o ≡ false → option_and_then (λ node. node.parent) o ≡ None
    absent None e = refl
    absent (Some node) e = absurd (true≢false e)

-- what comes after n in its chain, where the walk doesn't come back to n
pub chain_tail : (f : Forest) (n : List ℕ) → comes_back f n ≡ false → tail_of (chain_of f n) ≡ chain_from f (parent_of f n)
chain_tail f n apart = elim (cases_Bool (is_there f n)) [
  | inl there ↦ on there (parent_of f n) refl apart
  | inr out ↦ ap tail_of (chain_missing f n out) ∙ sym (ap (chain_from f) (no_parent f n out))
]
  where
    on : is_there f n ≡ true → (next : Option (List ℕ)) → parent_of f n ≡ next → option_map_or (λ p. in_chain f p n) next false ≡ false → tail_of (chain_of f n) ≡ chain_from f next
    on there None is out = ap tail_of (chain_alone f n there is)
    on there (Some p) is out = ap tail_of (chain_parent f n p there is) ∙ up_to_all n (chain_of f p) out

walk_halts_any : (left : ℕ) (f : Forest) (next : Option (List ℕ)) → walk_halts left f next ≡ walk_any (λ m. is_some (own_halt_of f m)) left f next
walk_halts_any zero f next = refl
walk_halts_any (suc left) f None = refl
walk_halts_any (suc left) f (Some n) = ap (λ b. is_there f n && (is_some (own_halt_of f n) || b)) (walk_halts_any left f (parent_of f n))

not_first : (b c d : Bool) → first (so b InCycle ∷ so c ParentMissing ∷ so d IllegalParent ∷ []) ≡ None → b ≡ false
not_first true c d h = absurd (none-some InCycle (sym h))
not_first false c d h = refl

-- who isn't halted by itself isn't above its parent
pub no_halt_apart : (f : Forest) (n : List ℕ) → own_halt_of f n ≡ None → comes_back f n ≡ false
no_halt_apart f n none = not_first (comes_back f n) (option_map_or (λ p. not (is_live f p)) (parent_of f n) false) (option_map_or (λ p. is_excluded f p) (parent_of f n) false) none

-- the walk from the parent tells whether an ancestor is halted by itself, where n isn't
pub walk_halts_above : (f : Forest) (n : List ℕ) → own_halt_of f n ≡ None → walk_halts (length f) f (parent_of f n) ≡ has_halted_ancestor f n
walk_halts_above f n none =
    walk_halts_any (length f) f (parent_of f n)
    ∙ walk_any_from (λ m. is_some (own_halt_of f m)) f (parent_of f n)
    ∙ sym (ap (list_any (λ m. is_some (own_halt_of f m))) (chain_tail f n (no_halt_apart f n none)))
