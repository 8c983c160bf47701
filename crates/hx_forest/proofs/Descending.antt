-- The way down from a namespace, by the children of each one found.
--     IsDescent         the names found so far, and those of them whose children were found
--     descent_start, descent_on, few_found      its first name, one step, and how many there may be
--     descent_end       once the children of all were found, they are the subtree
use Rattle.std.proofs.Common.{◌≡◌, ℕ, zero, suc, ◌+◌, ◌<◌, ◌≤◌, ◌⊎◌, Bool, true, false, cond, not, ◌||◌, Option, Some, None, List, [], ◌∷◌, ◌++◌, length, filter, get_or, take, refl, sym, ap, subst, ◌∙◌, inl, inr, arith, true≢false, append_assoc, append-nil}
use Rattle.std.specs.Option.{option_map_or}
use Rattle.std.specs.List.{AllByRecursion, IsDistinct}
use Rattle.std.specs.List.Sorted.{IsPermutation, IsSorted}
use Rattle.std.specs.Str.{bytes_eq}
use Rattle.std.proofs.lemmas.Bool.{and_parts, and_from, or_cases, or_left, or_right, not-true, not_from_false, cases_Bool}
use Rattle.std.proofs.lemmas.Cmp.{nat_list_eq_equiv}
use Rattle.std.proofs.lemmas.List.{take_more}
use Rattle.std.proofs.lemmas.List.{take-append-le}
use Rattle.std.proofs.lemmas.List.Folds.{list_any-append}
use Rattle.std.proofs.lemmas.List.Kept.{IsStrictlySortedBy-filter}
use Rattle.std.proofs.lemmas.List.Sorted.{list_any-IsPermutation}
use Rattle.std.proofs.lemmas.Map.Keys.{IsDistinct-push, IsDistinct-head, IsDistinct-tail, IsDistinct-IsPermutation, apart_from_distinct}
use Rattle.std.proofs.lemmas.Option.{none-some, same_Some}
use Rattle.hx_object.specs.Texts.{bytes_cmp}
use Rattle.hx_model.specs.Forest.{Forest, is_in, is_there, names_of, parent_of, in_chain, subtree_of, is_child, children_of}
use Rattle.hx_model.proofs.Climbing.{is_same, same_itself, few, Above, itself, through, chain_above, above_chain, is_in_push}
use Rattle.hx_model.proofs.Parents.{in_below, is_in_filter, swap_same}
use Rattle.hx_model.proofs.Walking.{both, names_have, no_parent, IsDistinct-filter}
use Rattle.hx_model.proofs.Moving.{Steps, arrived, step}
use Rattle.hx_forest.proofs.Named.{ascends}
use Rattle.hx_forest.proofs.Listing.{names_sorted, same_names, ascending}
use Rattle.hx_forest.proofs.Ascending.{distinct_names}
use Rattle.hx_forest.proofs.Changing.{children_has, children_ascend}

-- ---- children and parents

pub child_parent : (f : Forest) (p n : List ℕ) → is_child f p n ≡ true → parent_of f n ≡ Some p
child_parent f p n h = by (parent_of f n) h
  where
    by : (o : Option (List ℕ)) → option_map_or (bytes_eq p) o false ≡ true → o ≡ Some p
    by None e = absurd (true≢false (sym e))
    by (Some q) e = ap Some (sym (is_same p q e))

pub parent_child : (f : Forest) (p n : List ℕ) → parent_of f n ≡ Some p → is_child f p n ≡ true
parent_child f p n is = ap (λ (o : Option (List ℕ)). option_map_or (bytes_eq p) o false) is ∙ same_itself p

pub parent_there : (f : Forest) (n p : List ℕ) → parent_of f n ≡ Some p → is_there f n ≡ true
parent_there f n p is = elim (cases_Bool (is_there f n)) [
  | inl there ↦ there
  | inr out ↦ absurd (none-some p (sym (no_parent f n out) ∙ is))
]

-- ---- those found so far

-- distinct names below a, a itself among them; of the first ones all children but a are among them, and all but a are such children
pub record IsDescent (f : Forest) (a : List ℕ) (at : ℕ) (names : List (List ℕ)) : Type 0 where
  pub distinct : IsDistinct bytes_eq names
  pub below : (m : List ℕ) → is_in m names ≡ true → in_chain f m a ≡ true
  pub first : is_in a names ≡ true
  pub closed : (q m : List ℕ) → is_in q (take at names) ≡ true → is_child f q m ≡ true → bytes_eq m a ≡ false → is_in m names ≡ true
  pub from : (m : List ℕ) → is_in m names ≡ true → bytes_eq m a ≡ false → (q : List ℕ) × (is_in q (take at names) ≡ true) × (is_child f q m ≡ true)

one_in : (m a : List ℕ) → is_in m (a ∷ []) ≡ true → m ≡ a
one_in m a h = elim (or_cases (bytes_eq m a) false h) [ inl is ↦ is_same m a is | inr never ↦ absurd (true≢false (sym never)) ]

pub descent_start : (f : Forest) (a : List ℕ) → is_there f a ≡ true → IsDescent f a 0 (a ∷ [])
unfolding IsDistinct
descent_start f a there = record {
  distinct = (tt, tt);
  below = λ m h. subst (λ (x : List ℕ). in_chain f x a ≡ true) (sym (one_in m a h)) (above_chain f a a (itself there));
  first = or_left (bytes_eq a a) false (same_itself a);
  closed = λ q m h. absurd (true≢false (sym h));
  from = λ m h apart. absurd (true≢false (sym (subst (λ (x : List ℕ). bytes_eq m x ≡ true) (one_in m a h) (same_itself m)) ∙ apart));
}

-- there are at most as many as namespaces
pub few_found : (f : Forest) (a : List ℕ) (at : ℕ) (names : List (List ℕ)) → IsDescent f a at names → length names ≤ length f
few_found f a at names h = few f names (record { distinct = h.distinct; there = λ m mem. parent_of_chain m (h.below m mem) })
  where
    above_there : (n b : List ℕ) → Above f n b → is_there f n ≡ true
    above_there n b (itself there) = there
    above_there n b (through there is rest) = there

    parent_of_chain : (m : List ℕ) → in_chain f m a ≡ true → is_there f m ≡ true
    parent_of_chain m mem = above_there m a (chain_above f m a mem)

-- ---- one step

distinct_append : (xs ys : List (List ℕ)) → IsDistinct bytes_eq xs → IsDistinct bytes_eq ys → ((m : List ℕ) → is_in m ys ≡ true → is_in m xs ≡ false) → IsDistinct bytes_eq (xs ++ ys)
distinct_append xs [] dx dy apart = subst (IsDistinct bytes_eq) (sym (append-nil xs)) dx
distinct_append xs (y ∷ ys) dx dy apart =
    subst (IsDistinct bytes_eq) (append_assoc xs (y ∷ []) ys)
    (distinct_append (xs ++ y ∷ []) ys (IsDistinct-push nat_list_eq_equiv xs y dx (apart y (or_left (bytes_eq y y) (is_in y ys) (same_itself y)))) (IsDistinct-tail bytes_eq y ys dy)
    (λ m h. out m h))
  where
    out : (m : List ℕ) → is_in m ys ≡ true → is_in m (xs ++ y ∷ []) ≡ false
    out m h = elim (cases_Bool (is_in m (xs ++ y ∷ []))) [
      | inl mem ↦ elim (is_in_push m xs y mem) [
        | inl old ↦ absurd (true≢false (sym old ∙ apart m (or_right (bytes_eq m y) (is_in m ys) h)))
        | inr is ↦ absurd (true≢false (sym (subst (λ (x : List ℕ). is_in x ys ≡ true) is h) ∙ none y ys (IsDistinct-head bytes_eq y ys dy)))
      ]
      | inr no_mem ↦ no_mem
    ]
      where
        none : (z : List ℕ) (zs : List (List ℕ)) → AllByRecursion (λ x. bytes_eq z x ≡ false) zs → is_in z zs ≡ false
        none z [] all = refl
        none z (x ∷ zs) all = ap (λ b. b || is_in z zs) all.0 ∙ none z zs all.1

-- a name at a place isn't before it
not_before : (names : List (List ℕ)) (at : ℕ) (q : List ℕ) → IsDistinct bytes_eq names → at < length names → q ≡ get_or names at q → is_in q (take at names) ≡ false
not_before [] at q distinct within is = absurd (omega arith)
not_before (x ∷ xs) zero q distinct within is = refl
not_before (x ∷ xs) (suc i) q distinct within is =
    ap (λ b. b || is_in q (take i xs)) (swap_same x q (ap (bytes_eq x) is ∙ apart_from_distinct bytes_eq (x ∷ xs) 0 (suc i) q distinct (omega arith) within))
    ∙ not_before xs i q (IsDistinct-tail bytes_eq x xs distinct) (omega arith) is

-- the children of the next one, but for a
pub descent_on : (f : Forest) (a q : List ℕ) (at : ℕ) (names : List (List ℕ)) → ascends f ≡ true → at < length names → q ≡ get_or names at q → IsDescent f a at names
    → IsDescent f a (at + 1) (names ++ filter (λ m. not (bytes_eq m a)) (children_of f q))
descent_on f a q at names up within is h = record {
  distinct = distinct_append names xs h.distinct (IsDistinct-filter t (children_of f q) (distinct_names (children_of f q) (children_ascend f q up))) new;
  below = λ m mem. elim (in_both m mem) [
    | inl old ↦ h.below m old
    | inr young ↦ let at_m = young_child m young in above_chain f m a (through (parent_there f m q (child_parent f q m at_m.0)) (child_parent f q m at_m.0) (chain_above f q a (h.below q q_in)))
  ];
  first = in_old a h.first;
  closed = λ p m mem child apart. elim (is_in_push p (take at names) q (subst (λ (ys : List (List ℕ)). is_in p ys ≡ true) taken mem)) [
    | inl old ↦ in_old m (h.closed p m old child apart)
    | inr same ↦ in_young m (subst (λ (x : List ℕ). is_child f x m ≡ true) same child) apart
  ];
  from = λ m mem apart. elim (in_both m mem) [
    | inl old ↦ let was = h.from m old apart in (was.0, kept was.0 was.1, was.2)
    | inr young ↦ (q, here, (young_child m young).0)
  ];
}
  where
    t : List ℕ → Bool
    t m = not (bytes_eq m a)

    xs : List (List ℕ)
    xs = filter t (children_of f q)

    taken : take (at + 1) (names ++ xs) ≡ take at names ++ q ∷ []
    taken = take-append-le (at + 1) names xs (omega arith) ∙ take_more names at q within ∙ ap (λ (x : List ℕ). take at names ++ x ∷ []) (sym is)

    q_in : is_in q names ≡ true
    q_in = placed names at within is
      where
        placed : (ys : List (List ℕ)) (i : ℕ) → i < length ys → q ≡ get_or ys i q → is_in q ys ≡ true
        placed [] i less at_i = absurd (omega arith)
        placed (y ∷ ys) zero less at_i = or_left (bytes_eq q y) (is_in q ys) (subst (λ (x : List ℕ). bytes_eq q x ≡ true) at_i (same_itself q))
        placed (y ∷ ys) (suc i) less at_i = or_right (bytes_eq q y) (is_in q ys) (placed ys i (omega arith) at_i)

    in_both : (m : List ℕ) → is_in m (names ++ xs) ≡ true → (is_in m names ≡ true) ⊎ (is_in m xs ≡ true)
    in_both m mem = or_cases (is_in m names) (is_in m xs) (sym (list_any-append (bytes_eq m) names xs) ∙ mem)

    in_old : (m : List ℕ) → is_in m names ≡ true → is_in m (names ++ xs) ≡ true
    in_old m mem = list_any-append (bytes_eq m) names xs ∙ or_left (is_in m names) (is_in m xs) mem

    young_child : (m : List ℕ) → is_in m xs ≡ true → (is_child f q m ≡ true) × (bytes_eq m a ≡ false)
    young_child m mem =
        let parts = and_parts (is_in m (children_of f q)) (t m) (sym (is_in_filter t m (children_of f q)) ∙ mem) in
        (sym (children_has f q m) ∙ parts.0, not-true (bytes_eq m a) parts.1)

    in_young : (m : List ℕ) → is_child f q m ≡ true → bytes_eq m a ≡ false → is_in m (names ++ xs) ≡ true
    in_young m child apart =
        list_any-append (bytes_eq m) names xs
        ∙ or_right (is_in m names) (is_in m xs) (is_in_filter t m (children_of f q) ∙ and_from (is_in m (children_of f q)) (t m) (children_has f q m ∙ child) (not_from_false (bytes_eq m a) apart))

    new : (m : List ℕ) → is_in m xs ≡ true → is_in m names ≡ false
    new m mem = elim (cases_Bool (is_in m names)) [
      | inl old ↦
          let at_m = young_child m mem in
          let was = h.from m old at_m.1 in
          let same : was.0 ≡ q = same_Some was.0 q (sym (child_parent f was.0 m was.2) ∙ child_parent f q m at_m.0) in
          absurd (true≢false (sym (subst (λ (x : List ℕ). is_in x (take at names) ≡ true) same was.1) ∙ not_before names at q h.distinct within is))
      | inr out ↦ out
    ]

    kept : (p : List ℕ) → is_in p (take at names) ≡ true → is_in p (take (at + 1) (names ++ xs)) ≡ true
    kept p mem = ap (is_in p) taken ∙ list_any-append (bytes_eq p) (take at names) (q ∷ []) ∙ or_left (is_in p (take at names)) (is_in p (q ∷ [])) mem

    here : is_in q (take (at + 1) (names ++ xs)) ≡ true
    here = ap (is_in q) taken ∙ list_any-append (bytes_eq q) (take at names) (q ∷ []) ∙ or_right (is_in q (take at names)) (is_in q (q ∷ [])) (or_left (bytes_eq q q) false (same_itself q))

-- ---- all

-- the walk from who is below a comes to it
pub above_steps : (f : Forest) (m a : List ℕ) → Above f m a → (k : ℕ) × Steps f a m k
above_steps f m a (itself there) = (0, arrived refl there)
above_steps f m a (through {p = p} there is rest) = elim (cases_Bool (bytes_eq m a)) [
  | inl same ↦ (0, arrived (is_same m a same) there)
  | inr apart ↦ let on = above_steps f p a rest in (suc on.0, step there apart is on.1)
]

found : (f : Forest) (a : List ℕ) (names : List (List ℕ)) → IsDescent f a (length names) names → take (length names) names ≡ names → (m : List ℕ) (k : ℕ) → Steps f a m k → is_in m names ≡ true
found f a names h all m k (arrived is there) = subst (λ (x : List ℕ). is_in x names ≡ true) (sym is) h.first
found f a names h all m k (step {q = q} {k = i} there apart is rest) =
    h.closed q m (subst (λ (ys : List (List ℕ)). is_in q ys ≡ true) (sym all) (found f a names h all q i rest)) (parent_child f q m is) apart

-- once the children of all were found, their sort is the subtree
pub descent_end : (f : Forest) (a : List ℕ) (at : ℕ) (names sorted : List (List ℕ)) → ascends f ≡ true → length names ≤ at → take at names ≡ names → at ≤ length names → IsDescent f a at names → IsPermutation names sorted → IsSorted bytes_cmp sorted
    → sorted ≡ subtree_of f a
descent_end f a at names sorted up past all within h moved in_order =
    same_names sorted (subtree_of f a) (ascending sorted in_order (IsDistinct-IsPermutation bytes_eq (λ x y. nat_list_eq_equiv.symm x y) names sorted moved h.distinct))
    (IsStrictlySortedBy-filter bytes_cmp (λ m. in_chain f m a) (names_of f) (names_sorted f up)) (λ q.
    sym (list_any-IsPermutation (bytes_eq q) names sorted moved)
    ∙ both (is_in q names) (is_in q (subtree_of f a))
    (λ mem. in_below f q a ∙ and_from (is_in q (names_of f)) (in_chain f q a) (sym (names_have f q) ∙ there q (h.below q mem)) (h.below q mem))
    (λ mem. let low = (and_parts (is_in q (names_of f)) (in_chain f q a) (sym (in_below f q a) ∙ mem)).1 in let path = above_steps f q a (chain_above f q a low) in
    found f a names last whole q path.0 path.1))
  where
    same : at ≡ length names
    same = omega arith

    last : IsDescent f a (length names) names
    last = subst (λ (i : ℕ). IsDescent f a i names) same h

    whole : take (length names) names ≡ names
    whole = subst (λ (i : ℕ). take i names ≡ names) same all

    above_there : (n b : List ℕ) → Above f n b → is_there f n ≡ true
    above_there n b (itself here) = here
    above_there n b (through here is rest) = here

    there : (q : List ℕ) → in_chain f q a ≡ true → is_there f q ≡ true
    there q low = above_there q a (chain_above f q a low)

-- a name that isn't there has no subtree
pub nothing_below : (f : Forest) (a : List ℕ) → is_there f a ≡ false → subtree_of f a ≡ []
nothing_below f a out = empty (names_of f)
  where
    above_has : (n b : List ℕ) → Above f n b → is_there f b ≡ true
    above_has n b (itself here) = here
    above_has n b (through {p = p} here is rest) = above_has p b rest

    no : (m : List ℕ) → in_chain f m a ≡ false
    no m = elim (cases_Bool (in_chain f m a)) [
      | inl low ↦ absurd (true≢false (sym (above_has m a (chain_above f m a low)) ∙ out))
      | inr none ↦ none
    ]

    empty : (ns : List (List ℕ)) → filter (λ m. in_chain f m a) ns ≡ []
    empty [] = refl
    empty (n ∷ ns) = ap (λ b. cond b (n ∷ filter (λ m. in_chain f m a) ns) (filter (λ m. in_chain f m a) ns)) (no n) ∙ empty ns
