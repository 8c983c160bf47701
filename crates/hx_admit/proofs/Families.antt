-- What the rules on removals and on anchors look at besides, as it is found out.
--     any_child          whether a name has children
--     any_follower       where a namespace is there, others go with it exactly if some other one names it as its owner
--     no_follower        and none does where it isn't
use Rattle.std.proofs.Common.{◌≡◌, ℕ, suc, arith, Bool, true, false, cond, not, ◌&&◌, ◌||◌, ◌==◌, inl, inr, List, [], ◌∷◌, length, filter, Option, Some, None, refl, sym, ap, ◌∙◌, true≢false}
use Rattle.std.specs.Option.{option_map_or}
use Rattle.std.specs.Prelude.{is_some, option_and_then}
use Rattle.std.specs.List.{list_any}
use Rattle.std.specs.Str.{bytes_eq}
use Rattle.std.proofs.lemmas.Bool.{ne_eqb, and_parts, and_from, or_cases, or_left, or_right, not-true, not_from_false, false_from_ne_true, cases_Bool}
use Rattle.hx_model.specs.Forest.{Forest, is_in, names_of, node_of, is_there, parent_of, in_chain, is_child, children_of}
use Rattle.hx_model.specs.Subnamespaces.{has_children}
use Rattle.hx_model.specs.declared.node.Node.{Node}
use Rattle.hx_model.proofs.Climbing.{Above, itself, through, chain_above, above_chain, is_same, same_itself}
use Rattle.hx_model.proofs.Walking.{both, passes_in, same_flips, chain_there}
use Rattle.hx_admit.proofs.Moved.{any_in_filter}

-- some pass a test exactly if some of those are left that do
any_left : {A : Type 0} (t : A → Bool) (xs : List A) → not (length (filter t xs) == 0) ≡ list_any t xs
any_left t [] = refl
any_left t (x ∷ xs) = elim (t x) as (λ b. not (length (cond b (x ∷ filter t xs) (filter t xs)) == 0) ≡ (b || list_any t xs)) [ true ↦ ap not (some (length (filter t xs))) | false ↦ any_left t xs ]
  where
    some : (n : ℕ) → (suc n == 0) ≡ false
    some n = ne_eqb (suc n) 0 (λ e. omega (arith, e))

-- a name has children exactly if the list of them isn't empty
pub any_child : (f : Forest) (n : List ℕ) → not (length (children_of f n) == 0) ≡ has_children f n
any_child f n = any_left (is_child f n) (names_of f)

-- ---- followers

-- one that passes, found
any_found : (t : List ℕ → Bool) (xs : List (List ℕ)) → list_any t xs ≡ true → (m : List ℕ) × (is_in m xs ≡ true) × (t m ≡ true)
any_found t [] some = absurd (true≢false (sym some))
any_found t (x ∷ xs) some = elim (or_cases (t x) (list_any t xs) some) [
  | inl here ↦ (x, or_left (bytes_eq x x) (is_in x xs) (same_itself x), here)
  | inr later ↦ let rest = any_found t xs later in (rest.0, or_right (bytes_eq rest.0 x) (is_in rest.0 xs) rest.1, rest.2)
]

-- a namespace of the forest is among its names
named_there : (f : Forest) (n : List ℕ) → is_there f n ≡ true → is_in n (names_of f) ≡ true
named_there [] n there = absurd (true≢false (sym there))
named_there (e ∷ f) n there = elim (bytes_eq n e.0) as (λ b. is_some (cond b (Some e.1) (node_of f n)) ≡ true → (b || is_in n (names_of f)) ≡ true) [
  | true ↦ λ _. refl
  | false ↦ λ rest. named_there f n rest
] there

-- one that names a parent is there
parent_there : (f : Forest) (n p : List ℕ) → parent_of f n ≡ Some p → is_there f n ≡ true
parent_there f n p e = by (node_of f n) e
  where
    by : (o : Option Node) → option_and_then (λ (node : Node). node.parent) o ≡ Some p → is_some o ≡ true
    by None e = absurd (let h : None ≡ Some p = e in cc)
    by (Some node) e = refl

-- the way up to n from another comes to one that names n as its parent
last_step : (f : Forest) (m n : List ℕ) → Above f m n → bytes_eq n m ≡ false → (k : List ℕ) × (parent_of f k ≡ Some n) × (bytes_eq n k ≡ false)
last_step f m n (itself there) other = absurd (true≢false (sym (same_itself m) ∙ other))
last_step f m n (through {p = p} there is rest) other = elim (cases_Bool (bytes_eq n p)) [
  | inl same ↦ (m, is ∙ ap Some (sym (is_same n p same)), other)
  | inr apart ↦ last_step f p n rest apart
]

child_of : (f : Forest) (p n : List ℕ) → is_child f p n ≡ true → parent_of f n ≡ Some p
child_of f p n h = by (parent_of f n) h
  where
    by : (o : Option (List ℕ)) → option_map_or (bytes_eq p) o false ≡ true → o ≡ Some p
    by None h = absurd (true≢false (sym h))
    by (Some q) h = ap Some (sym (is_same p q h))

-- a namespace is reached from another one exactly if some other one names it
pub any_follower : (f : Forest) (n : List ℕ) → is_there f n ≡ true → list_any (λ m. not (bytes_eq m n)) (children_of f n) ≡ list_any (λ m. not (bytes_eq n m) && in_chain f m n) (names_of f)
any_follower f n there =
    any_in_filter (λ m. not (bytes_eq m n)) (is_child f n) (names_of f)
    ∙ both (list_any (λ m. is_child f n m && not (bytes_eq m n)) (names_of f)) (list_any (λ m. not (bytes_eq n m) && in_chain f m n) (names_of f)) down up
  where
    down : list_any (λ m. is_child f n m && not (bytes_eq m n)) (names_of f) ≡ true → list_any (λ m. not (bytes_eq n m) && in_chain f m n) (names_of f) ≡ true
    down some =
        let found = any_found (λ m. is_child f n m && not (bytes_eq m n)) (names_of f) some in
        let m = found.0 in
        let parts = and_parts (is_child f n m) (not (bytes_eq m n)) found.2 in
        let parent = child_of f n m parts.0 in
        passes_in (λ m. not (bytes_eq n m) && in_chain f m n) m (names_of f) found.1
        (and_from (not (bytes_eq n m)) (in_chain f m n) (ap not (same_flips n m) ∙ parts.1) (above_chain f m n (through (parent_there f m n parent) parent (itself there))))

    up : list_any (λ m. not (bytes_eq n m) && in_chain f m n) (names_of f) ≡ true → list_any (λ m. is_child f n m && not (bytes_eq m n)) (names_of f) ≡ true
    up some =
        let found = any_found (λ m. not (bytes_eq n m) && in_chain f m n) (names_of f) some in
        let parts = and_parts (not (bytes_eq n found.0)) (in_chain f found.0 n) found.2 in
        let step = last_step f found.0 n (chain_above f found.0 n parts.1) (not-true (bytes_eq n found.0) parts.0) in
        let k = step.0 in
        passes_in (λ m. is_child f n m && not (bytes_eq m n)) k (names_of f) (named_there f k (parent_there f k n step.1))
        (and_from (is_child f n k) (not (bytes_eq k n)) (ap (λ (o : Option (List ℕ)). option_map_or (bytes_eq n) o false) step.1 ∙ same_itself n) (not_from_false (bytes_eq k n) (same_flips k n ∙ step.2)))

-- nothing leads to a name without a namespace
pub no_follower : (f : Forest) (n : List ℕ) → is_there f n ≡ false → list_any (λ m. not (bytes_eq n m) && in_chain f m n) (names_of f) ≡ false
no_follower f n out = false_from_ne_true (list_any (λ m. not (bytes_eq n m) && in_chain f m n) (names_of f)) (λ some.
    let found = any_found (λ m. not (bytes_eq n m) && in_chain f m n) (names_of f) some in
    let parts = and_parts (not (bytes_eq n found.0)) (in_chain f found.0 n) found.2 in
    true≢false (sym ((chain_there f found.0).there n parts.1) ∙ out))
