-- How many members a chain has that comes to a cycle.
--     up_to_steps      as many names come before one as it is steps above
--     count_on         one step of the count
--     count_all        the count is the length of the chain
use Rattle.std.proofs.Common.{◌≡◌, ℕ, zero, suc, ◌+◌, ◌-◌, ◌<◌, ◌≤◌, Bool, true, false, cond, ◌||◌, Option, Some, None, List, [], ◌∷◌, length, is_some, refl, sym, ap, subst, ◌∙◌, inl, inr, arith, true≢false}
use Rattle.std.specs.Prelude.{option_and_then}
use Rattle.std.specs.Option.{option_map_or}
use Rattle.std.specs.Str.{bytes_eq}
use Rattle.std.proofs.lemmas.Bool.{or_cases, cases_Bool}
use Rattle.hx_model.specs.declared.node.Node.{Node}
use Rattle.hx_model.specs.Forest.{Forest, is_in, is_there, node_of, parent_of, chain_of}
use Rattle.hx_model.specs.Walks.{walk_to}
use Rattle.hx_model.proofs.Climbing.{is_same, same_itself, few}
use Rattle.hx_model.proofs.Parents.{up_to, up_to_all, chain_alone, chain_parent, swap_same}
use Rattle.hx_model.proofs.Walking.{chain_there, chain_missing}
use Rattle.hx_model.proofs.Moving.{Steps, arrived, step, one_count, walk_to_Steps, walk_to_none}
use Rattle.hx_forest.specs.Inside.{chain_count}

begins_so : (f : Forest) (n : List ℕ) → is_there f n ≡ true → (o : Option (List ℕ)) → parent_of f n ≡ o → (rest : List (List ℕ)) × (chain_of f n ≡ n ∷ rest)
begins_so f n there None is = ([], chain_alone f n there is)
begins_so f n there (Some p) is = (up_to n (chain_of f p), chain_parent f n p there is)

-- a chain begins with the namespace itself
pub begins : (f : Forest) (n : List ℕ) → is_there f n ≡ true → (rest : List (List ℕ)) × (chain_of f n ≡ n ∷ rest)
begins f n there = begins_so f n there (parent_of f n) refl

first_out : (a b : Bool) → (a || b) ≡ false → a ≡ false
first_out true b h = absurd (true≢false h)
first_out false b h = refl

later_out : (a b : Bool) → (a || b) ≡ false → b ≡ false
later_out true b h = absurd (true≢false h)
later_out false b h = h

-- what comes before m isn't cut where x comes later
cut_later : (m x : List ℕ) (cs : List (List ℕ)) → bytes_eq x m ≡ false → is_in x (up_to m cs) ≡ false → up_to m (up_to x cs) ≡ up_to m cs
cut_later m x [] apart out = refl
cut_later m x (c ∷ cs) apart out = elim (cases_Bool (bytes_eq m c)) [
  | inl here ↦
      let other : bytes_eq x c ≡ false = subst (λ (d : List ℕ). bytes_eq x d ≡ false) (is_same m c here) apart in
      ap (λ b. up_to m (cond b [] (c ∷ up_to x cs))) other ∙ ap (λ b. cond b [] (c ∷ up_to m (up_to x cs))) here ∙ sym (ap (λ b. cond b [] (c ∷ up_to m cs)) here)
  | inr away ↦
      let rest : is_in x (c ∷ up_to m cs) ≡ false = sym (ap (λ b. is_in x (cond b [] (c ∷ up_to m cs))) away) ∙ out in
      let other : bytes_eq x c ≡ false = first_out (bytes_eq x c) (is_in x (up_to m cs)) rest in
      ap (λ b. up_to m (cond b [] (c ∷ up_to x cs))) other ∙ ap (λ b. cond b [] (c ∷ up_to m (up_to x cs))) away
      ∙ ap (λ ys. c ∷ ys) (cut_later m x cs apart (later_out (bytes_eq x c) (is_in x (up_to m cs)) rest)) ∙ sym (ap (λ b. cond b [] (c ∷ up_to m cs)) away)
]

-- up to m, q comes first, and then what comes from its parent on
grown : (f : Forest) (m q r : List ℕ) → is_there f q ≡ true → bytes_eq q m ≡ false → parent_of f q ≡ Some r → is_in q (up_to m (chain_of f r)) ≡ false → up_to m (chain_of f q) ≡ q ∷ up_to m (chain_of f r)
grown f m q r there apart is out =
    ap (up_to m) (chain_parent f q r there is)
    ∙ ap (λ b. cond b [] (q ∷ up_to m (up_to q (chain_of f r)))) (swap_same q m apart)
    ∙ ap (λ ys. q ∷ ys) (cut_later m q (chain_of f r) apart out)

nothing_before : (f : Forest) (m q : List ℕ) → q ≡ m → is_there f q ≡ true → up_to m (chain_of f q) ≡ []
nothing_before f m q is there =
    ap (up_to m) (begins f q there).1 ∙ ap (λ b. cond b [] (q ∷ up_to m (begins f q there).0)) (subst (λ (x : List ℕ). bytes_eq x q ≡ true) is (same_itself q))

-- q isn't among those from its parent on
out_by : (f : Forest) (m q r : List ℕ) (k : ℕ) → Steps f m q (suc k) → ((y : List ℕ) → is_in y (up_to m (chain_of f r)) ≡ true → (j : ℕ) × (j ≤ k) × Steps f m y j) → is_in q (up_to m (chain_of f r)) ≡ false
out_by f m q r k steps near = elim (cases_Bool (is_in q (up_to m (chain_of f r)))) [
  | inl has ↦ let on = near q has in let same : suc k ≡ on.0 = one_count f m q (suc k) on.0 steps on.2 in absurd (omega (arith, on.1, same))
  | inr free ↦ free
]

before_on : (f : Forest) (m q r : List ℕ) (k : ℕ) → is_there f q ≡ true → bytes_eq q m ≡ false → parent_of f q ≡ Some r → Steps f m r k → ((y : List ℕ) → is_in y (up_to m (chain_of f r)) ≡ true → (j : ℕ) × (j ≤ k) × Steps f m y j)
    → (y : List ℕ) → is_in y (up_to m (chain_of f q)) ≡ true → (j : ℕ) × (j ≤ suc k) × Steps f m y j
before_on f m q r k there apart is rest near y mem =
    elim (or_cases (bytes_eq y q) (is_in y (up_to m (chain_of f r))) (sym (ap (is_in y) (grown f m q r there apart is (out_by f m q r k (step there apart is rest) near))) ∙ mem)) [
      | inl same ↦ (suc k, omega arith, subst (λ (x : List ℕ). Steps f m x (suc k)) (sym (is_same y q same)) (step there apart is rest))
      | inr later ↦ let on = near y later in (on.0, omega (arith, on.1), on.2)
    ]

before : (f : Forest) (m q : List ℕ) (i : ℕ) → Steps f m q i → (y : List ℕ) → is_in y (up_to m (chain_of f q)) ≡ true → (j : ℕ) × (j ≤ i) × Steps f m y j
before f m q i (arrived is there) y mem = absurd (true≢false (sym mem ∙ ap (is_in y) (nothing_before f m q is there)))
before f m q i (step {q = r} {k = k} there apart is rest) y mem = before_on f m q r k there apart is rest (before f m r k rest) y mem

not_again : (f : Forest) (m q r : List ℕ) (k : ℕ) → Steps f m q (suc k) → Steps f m r k → is_in q (up_to m (chain_of f r)) ≡ false
not_again f m q r k long short = out_by f m q r k long (before f m r k short)

-- as many names come before m as it is steps above
pub up_to_steps : (f : Forest) (m q : List ℕ) (i : ℕ) → Steps f m q i → length (up_to m (chain_of f q)) ≡ i
up_to_steps f m q i (arrived is there) = ap length (nothing_before f m q is there)
up_to_steps f m q i (step {q = r} {k = k} there apart is rest) =
    ap length (grown f m q r there apart is (not_again f m q r k (step there apart is rest) rest)) ∙ ap (λ (j : ℕ). suc j) (up_to_steps f m r k rest)

-- ---- the count

count_from : (left : ℕ) (f : Forest) (n : List ℕ) → length (chain_of f n) ≤ suc left → is_there f n ≡ true → (o : Option (List ℕ)) → parent_of f n ≡ o → ((p : List ℕ) → length (chain_of f p) ≤ left → chain_count left f p ≡ length (chain_of f p))
    → option_map_or (λ p. option_map_or (λ k. k + 1) (walk_to (length f) f (Some p) n) (1 + chain_count left f p)) o 1 ≡ length (chain_of f n)
count_from left f n enough there None is further = sym (ap length (chain_alone f n there is))
count_from left f n enough there (Some p) is further = at (walk_to (length f) f (Some p) n) refl
  where
    at : (w : Option ℕ) → walk_to (length f) f (Some p) n ≡ w → option_map_or (λ k. k + 1) w (1 + chain_count left f p) ≡ length (chain_of f n)
    at (Some k) walk =
        let long : length (chain_of f n) ≡ suc (length (up_to n (chain_of f p))) = ap length (chain_parent f n p there is) in
        omega (arith, long, up_to_steps f n p k (walk_to_Steps (length f) f n (Some p) k walk))
    at None walk =
        let long : length (chain_of f n) ≡ suc (length (chain_of f p)) = ap length (chain_parent f n p there is ∙ ap (λ xs. n ∷ xs) (up_to_all n (chain_of f p) (walk_to_none f n p walk))) in
        omega (arith, long, further p (omega (arith, enough, long)))

pub count_all : (left : ℕ) (f : Forest) (n : List ℕ) → length (chain_of f n) ≤ left → chain_count left f n ≡ length (chain_of f n)
count_all zero f n enough = omega arith
count_all (suc left) f n enough = elim (cases_Bool (is_there f n)) [
  | inl there ↦ ap (λ b. cond b (option_map_or (λ p. option_map_or (λ k. k + 1) (walk_to (length f) f (Some p) n) (1 + chain_count left f p)) (parent_of f n) 1) 0) there ∙ count_from left f n enough there (parent_of f n) refl (count_all left f)
  | inr out ↦ ap (λ b. cond b (option_map_or (λ p. option_map_or (λ k. k + 1) (walk_to (length f) f (Some p) n) (1 + chain_count left f p)) (parent_of f n) 1) 0) out ∙ sym (ap length (chain_missing f n out))
]

-- the whole count
pub count_chain : (f : Forest) (n : List ℕ) → chain_count (length f) f n ≡ length (chain_of f n)
count_chain f n = count_all (length f) f n (few f (chain_of f n) (chain_there f n))

-- ---- one step, for a loop that counts down

pub count_on : (left : ℕ) (f : Forest) (n p : List ℕ) (node : Node) → 0 < left → node_of f n ≡ Some node → node.parent ≡ Some p → chain_count left f n ≡ option_map_or (λ k. k + 1) (walk_to (length f) f (Some p) n) (1 + chain_count (left - 1) f p)
count_on zero f n p node some found is = let never : ⊥ = omega arith in absurd never
count_on (suc left) f n p node some found is =
    let same : left ≡ suc left - 1 = omega arith in
    ap (λ (o : Option Node). cond (is_some o) (option_map_or (λ p. option_map_or (λ k. k + 1) (walk_to (length f) f (Some p) n) (1 + chain_count left f p)) (option_and_then (λ node. node.parent) o) 1) 0) found
    ∙ ap (λ (o : Option (List ℕ)). option_map_or (λ p. option_map_or (λ k. k + 1) (walk_to (length f) f (Some p) n) (1 + chain_count left f p)) o 1) is
    ∙ ap (λ (l : ℕ). option_map_or (λ k. k + 1) (walk_to (length f) f (Some p) n) (1 + chain_count l f p)) same

-- round the cycle
pub count_round : (left : ℕ) (f : Forest) (n p : List ℕ) (node : Node) (k : ℕ) → 0 < left → node_of f n ≡ Some node → node.parent ≡ Some p → walk_to (length f) f (Some p) n ≡ Some k → chain_count left f n ≡ k + 1
count_round left f n p node k some found is walk = count_on left f n p node some found is ∙ ap (λ (o : Option ℕ). option_map_or (λ k. k + 1) o (1 + chain_count (left - 1) f p)) walk
