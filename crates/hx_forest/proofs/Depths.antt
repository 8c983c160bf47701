-- How far the way down from a namespace goes.
--     over_top, over_none, over_on      one step of it
--     deeper_moved                      whether its subtree is too deep after a move
use Rattle.std.specs.Prelude.{nat_lt}
use Rattle.std.proofs.Common.{◌≡◌, ℕ, zero, suc, ◌+◌, ◌-◌, ◌<◌, ◌≤◌, Bool, true, false, not, ◌&&◌, ◌||◌, Option, Some, None, List, [], ◌∷◌, length, get_or, drop, drop-cons, is_some, refl, sym, ap, subst, ◌∙◌, inl, inr, arith, true≢false}
use Rattle.std.specs.List.{list_any}
use Rattle.std.specs.Option.{option_map_or}
use Rattle.std.specs.Str.{bytes_eq}
use Rattle.std.proofs.lemmas.Bool.{and_parts, and_from, or_cases, or_left, or_right, not-true, not_from_false, ltb-true, lt-ltb, le-ltb, ltb-false}
use Rattle.hx_model.specs.Forest.{Forest, is_in, is_there, names_of, with_parent, reaches_deeper, children_of}
use Rattle.hx_model.specs.Walks.{walk_to, length_from}
use Rattle.hx_model.proofs.Climbing.{same_itself, above_chain}
use Rattle.hx_model.proofs.Walking.{both, passes_in, names_have, walk_to_has, walk_has_chain}
use Rattle.hx_model.proofs.Moving.{Steps, arrived, step, walk_to_Steps, one_count, steps_above, IsApart, moved_reaches_deeper}
use Rattle.hx_forest.specs.Inside.{is_over, goes_deeper}
use Rattle.hx_forest.proofs.Changing.{children_has}
use Rattle.hx_forest.proofs.Descending.{child_parent, parent_child, parent_there}

-- ---- one step

pub over_top : (left : ℕ) (f : Forest) (top c : List ℕ) → bytes_eq c top ≡ true → is_over left f top c ≡ false
over_top zero f top c is = ap not is
over_top (suc left) f top c is = ap (λ b. not b && list_any (is_over left f top) (children_of f c)) is

pub over_none : (left : ℕ) (f : Forest) (top c : List ℕ) → left ≡ 0 → bytes_eq c top ≡ false → is_over left f top c ≡ true
over_none zero f top c none out = ap not out
over_none (suc left) f top c none out = let never : ⊥ = omega (arith, none) in absurd never

pub over_on : (left : ℕ) (f : Forest) (top c : List ℕ) → 0 < left → bytes_eq c top ≡ false → is_over left f top c ≡ goes_deeper (left - 1) f top c
over_on zero f top c some out = let never : ⊥ = omega arith in absurd never
over_on (suc left) f top c some out =
    let same : left ≡ suc left - 1 = omega arith in
    ap (λ b. not b && list_any (is_over left f top) (children_of f c)) out ∙ ap (λ (k : ℕ). goes_deeper k f top c) same

-- ---- a way down

one_passes : (t : List ℕ → Bool) (xs : List (List ℕ)) → list_any t xs ≡ true → (c : List ℕ) × (is_in c xs ≡ true) × (t c ≡ true)
one_passes t [] h = absurd (true≢false (sym h))
one_passes t (x ∷ xs) h = elim (or_cases (t x) (list_any t xs) h) [
  | inl here ↦ (x, or_left (bytes_eq x x) (is_in x xs) (same_itself x), here)
  | inr later ↦ let on = one_passes t xs later in (on.0, or_right (bytes_eq on.0 x) (is_in on.0 xs) on.1, on.2)
]

any_more : (t u : List ℕ → Bool) → ((c : List ℕ) → t c ≡ true → u c ≡ true) → (xs : List (List ℕ)) → list_any t xs ≡ true → list_any u xs ≡ true
any_more t u keeps [] h = absurd (true≢false (sym h))
any_more t u keeps (x ∷ xs) h = elim (or_cases (t x) (list_any t xs) h) [
  | inl here ↦ or_left (u x) (list_any u xs) (keeps x here)
  | inr later ↦ or_right (u x) (list_any u xs) (any_more t u keeps xs later)
]

-- a step less
less_over : (left : ℕ) (f : Forest) (top c : List ℕ) → is_over (suc left) f top c ≡ true → is_over left f top c ≡ true
less_over zero f top c h = (and_parts (not (bytes_eq c top)) (list_any (is_over zero f top) (children_of f c)) h).0
less_over (suc left) f top c h =
    let parts = and_parts (not (bytes_eq c top)) (list_any (is_over (suc left) f top) (children_of f c)) h in
    and_from (not (bytes_eq c top)) (list_any (is_over left f top) (children_of f c)) parts.0 (any_more (is_over (suc left) f top) (is_over left f top) (less_over left f top) (children_of f c) parts.1)

-- and any number less
fewer_deeper : (more left : ℕ) (f : Forest) (top n : List ℕ) → goes_deeper (more + left) f top n ≡ true → goes_deeper left f top n ≡ true
fewer_deeper zero left f top n h = let same : 0 + left ≡ left = omega arith in subst (λ (k : ℕ). goes_deeper k f top n ≡ true) same h
fewer_deeper (suc more) left f top n h =
    let same : suc more + left ≡ suc (more + left) = omega arith in
    fewer_deeper more left f top n (any_more (is_over (suc (more + left)) f top) (is_over (more + left) f top) (less_over (more + left) f top) (children_of f n) (subst (λ (k : ℕ). goes_deeper k f top n ≡ true) same h))

-- the way down from m has j steps
abbrev IsDeep : ℕ → Forest → List ℕ → List ℕ → Type 0
IsDeep zero f top m = Unit {0}
IsDeep (suc j) f top m = goes_deeper j f top m ≡ true

over_of_deep : (j : ℕ) (f : Forest) (top m : List ℕ) → bytes_eq m top ≡ false → IsDeep j f top m → is_over j f top m ≡ true
over_of_deep zero f top m out deep = ap not out
over_of_deep (suc j) f top m out deep = and_from (not (bytes_eq m top)) (goes_deeper j f top m) (not_from_false (bytes_eq m top) out) deep

-- and from n so many more as n is above it
deep_above : (f : Forest) (n m : List ℕ) (k j : ℕ) → Steps f n m k → IsDeep j f n m → IsDeep (k + j) f n n
deep_above f n m k j (arrived is there) deep =
    let same : j ≡ 0 + j = omega arith in
    subst (λ (i : ℕ). IsDeep i f n n) same (subst (λ (x : List ℕ). IsDeep j f n x) is deep)
deep_above f n m k j (step {q = q} {k = i} there apart is rest) deep =
    let same : i + suc j ≡ suc i + j = omega arith in
    let over : goes_deeper j f n q ≡ true = passes_in (is_over j f n) m (children_of f q) (children_has f q m ∙ parent_child f q m is) (over_of_deep j f n m apart deep) in
    subst (λ (l : ℕ). IsDeep l f n n) same (deep_above f n q i (suc j) rest over)

deep_from : (left k : ℕ) (f : Forest) (n : List ℕ) → left < k → IsDeep k f n n → goes_deeper left f n n ≡ true
deep_from left zero f n more deep = let never : ⊥ = omega arith in absurd never
deep_from left (suc j) f n more deep =
    let same : j ≡ (j - left) + left = omega arith in
    fewer_deeper (j - left) left f n n (subst (λ (i : ℕ). goes_deeper i f n n ≡ true) same deep)

-- one that is found further down
deep_steps : (left : ℕ) (f : Forest) (n x : List ℕ) (i : ℕ) → goes_deeper left f n x ≡ true → Steps f n x i → (m : List ℕ) × (k : ℕ) × Steps f n m k × (left + i < k)
deep_steps zero f n x i h steps =
    let one = one_passes (is_over zero f n) (children_of f x) h in
    let at = child_parent f x one.0 (sym (children_has f x one.0) ∙ one.1) in
    (one.0, suc i, step (parent_there f one.0 x at) (not-true (bytes_eq one.0 n) one.2) at steps, omega arith)
deep_steps (suc left) f n x i h steps =
    let one = one_passes (is_over (suc left) f n) (children_of f x) h in
    let at = child_parent f x one.0 (sym (children_has f x one.0) ∙ one.1) in
    let parts = and_parts (not (bytes_eq one.0 n)) (goes_deeper left f n one.0) one.2 in
    let on = deep_steps left f n one.0 (suc i) parts.1 (step (parent_there f one.0 x at) (not-true (bytes_eq one.0 n) parts.0) at steps) in
    (on.0, on.1, on.2, omega (arith, on.3))

-- ---- after a move

steps_there : (f : Forest) (n m : List ℕ) (k : ℕ) → Steps f n m k → is_there f m ≡ true
steps_there f n m k (arrived is there) = there
steps_there f n m k (step there apart is rest) = there

walk_counts : (f : Forest) (n m : List ℕ) (k : ℕ) → Steps f n m k → walk_to (length f) f (Some m) n ≡ Some k
walk_counts f n m k steps = at (walk_to (length f) f (Some m) n) refl
  where
    at : (o : Option ℕ) → walk_to (length f) f (Some m) n ≡ o → o ≡ Some k
    at None h = absurd (true≢false (sym (above_chain f m n (steps_above f n m k steps)) ∙ sym (walk_to_has (length f) f (Some m) n ∙ walk_has_chain f m n) ∙ ap is_some h))
    at (Some j) h = ap Some (one_count f n m j k (walk_to_Steps (length f) f n (Some m) j h) steps)

-- m is so far below n
abbrev is_far : Forest → List ℕ → ℕ → ℕ → List ℕ → Bool
is_far f n base most m = option_map_or (λ k. nat_lt most (k + base)) (walk_to (length f) f (Some m) n) false

far_found : (f : Forest) (n : List ℕ) (base most : ℕ) (m : List ℕ) (k : ℕ) → Steps f n m k → most < k + base → list_any (is_far f n base most) (names_of f) ≡ true
far_found f n base most m k steps more =
    passes_in (is_far f n base most) m (names_of f) (sym (names_have f m) ∙ steps_there f n m k steps)
    (ap (λ (o : Option ℕ). option_map_or (λ k. nat_lt most (k + base)) o false) (walk_counts f n m k steps) ∙ lt-ltb most (k + base) more)

far_deep : (f : Forest) (n : List ℕ) (base most : ℕ) → nat_lt most base ≡ false → list_any (is_far f n base most) (names_of f) ≡ true → goes_deeper (most - base) f n n ≡ true
far_deep f n base most low h =
    let one = one_passes (is_far f n base most) (names_of f) h in
    at one.0 (walk_to (length f) f (Some one.0) n) refl one.2
  where
    room : base ≤ most
    room = ltb-false most base low

    at : (m : List ℕ) (o : Option ℕ) → walk_to (length f) f (Some m) n ≡ o → option_map_or (λ k. nat_lt most (k + base)) o false ≡ true → goes_deeper (most - base) f n n ≡ true
    at m None is far = absurd (true≢false (sym far))
    at m (Some k) is far =
        let over : most < k + base = ltb-true most (k + base) far in
        let same : k + 0 ≡ k = omega arith in
        deep_from (most - base) k f n (omega (arith, room, over)) (subst (λ (i : ℕ). IsDeep i f n n) same (deep_above f n m k 0 (walk_to_Steps (length f) f n (Some m) k is) tt))

-- whether the subtree of n is too deep after a move
pub deeper_moved : (most : ℕ) (f : Forest) (n : List ℕ) (parent : Option (List ℕ)) → IsApart f n parent → is_there f n ≡ true
    → (nat_lt most (length_from f parent) || goes_deeper (most - length_from f parent) f n n) ≡ reaches_deeper most (with_parent n parent f) n
deeper_moved most f n parent apart there = by (nat_lt most base) refl ∙ sym (moved_reaches_deeper most f n parent apart)
  where
    base : ℕ
    base = length_from f parent

    by : (b : Bool) → nat_lt most base ≡ b → (b || goes_deeper (most - base) f n n) ≡ list_any (is_far f n base most) (names_of f)
    by true h = sym (far_found f n base most n 0 (arrived refl there) (let over : most < base = ltb-true most base h in omega (arith, over)))
    by false h = both (goes_deeper (most - base) f n n) (list_any (is_far f n base most) (names_of f))
        (λ deep. let on = deep_steps (most - base) f n n 0 deep (arrived refl there) in let room : base ≤ most = ltb-false most base h in far_found f n base most on.0 on.1 on.2 (omega (arith, on.3, room)))
        (far_deep f n base most h)

-- the new parent's chain is too long already
pub deeper_base : (most : ℕ) (f : Forest) (n : List ℕ) (parent : Option (List ℕ)) (base : ℕ) → IsApart f n parent → is_there f n ≡ true → base ≡ length_from f parent → most < base
    → nat_lt most base ≡ reaches_deeper most (with_parent n parent f) n
deeper_base most f n parent base apart there is over =
    ap (nat_lt most) is ∙ either (nat_lt most (length_from f parent)) (lt-ltb most (length_from f parent) (subst (λ (k : ℕ). most < k) is over)) ∙ deeper_moved most f n parent apart there
  where
    either : (b : Bool) → b ≡ true → b ≡ (b || goes_deeper (most - length_from f parent) f n n)
    either true h = refl
    either false h = absurd (true≢false (sym h))

-- it isn't
pub deeper_below : (most : ℕ) (f : Forest) (n : List ℕ) (parent : Option (List ℕ)) (base : ℕ) (deep : Bool) → IsApart f n parent → is_there f n ≡ true → base ≡ length_from f parent → base ≤ most
    → deep ≡ goes_deeper (most - base) f n n → deep ≡ reaches_deeper most (with_parent n parent f) n
deeper_below most f n parent base deep apart there is within same =
    same ∙ ap (λ (k : ℕ). goes_deeper (most - k) f n n) is ∙ either (nat_lt most (length_from f parent)) (le-ltb most (length_from f parent) (subst (λ (k : ℕ). k ≤ most) is within)) ∙ deeper_moved most f n parent apart there
  where
    either : (b : Bool) → b ≡ false → goes_deeper (most - length_from f parent) f n n ≡ (b || goes_deeper (most - length_from f parent) f n n)
    either true h = absurd (true≢false h)
    either false h = refl

-- ---- a loop over children

pub any_drop : (t : List ℕ → Bool) (xs : List (List ℕ)) (i : ℕ) (x : List ℕ) → i < length xs → x ≡ get_or xs i x → list_any t (drop i xs) ≡ (t x || list_any t (drop (i + 1) xs))
any_drop t xs i x within is =
    let next : suc i ≡ i + 1 = omega arith in
    ap (list_any t) (drop-cons xs i x within) ∙ ap (λ (y : List ℕ). t y || list_any t (drop (suc i) xs)) (sym is) ∙ ap (λ (k : ℕ). t x || list_any t (drop k xs)) next

-- past one that doesn't pass
pub any_past : (t : List ℕ → Bool) (xs : List (List ℕ)) (i : ℕ) (x : List ℕ) → i < length xs → x ≡ get_or xs i x → t x ≡ false → list_any t (drop (i + 1) xs) ≡ list_any t (drop i xs)
any_past t xs i x within is none = sym (any_drop t xs i x within is ∙ ap (λ b. b || list_any t (drop (i + 1) xs)) none)
