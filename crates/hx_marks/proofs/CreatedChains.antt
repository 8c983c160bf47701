-- Chains where a namespace is made: n isn't there in the forest f, is there in g, and all else is as before.
--     there_same, parent_same, live_same, excluded_same   the node of another is as before
--     own_by                the reasons of a namespace by itself, by what it names as its parent
--     made_chain_same       a chain without n is as before
--     made_own_same         so are the reasons that its members have by themselves
--     made_open_same        one whose chain doesn't have n takes part as before
--     made_comes_to         whose chain has n is n, or had one that names n
--     made_not_open         one whose chain has n didn't take part before
--     made_members          who is in a chain after it was in it before, is n, or is above the parent of n
--     made_tail             the same of the members behind the first one
--     made_below            whose chain has n is n, or lies below one that names n
use Rattle.std.specs.Prelude.{is_some, is_none, filter}
use Rattle.std.proofs.Common.{◌≡◌, ℕ, Bool, true, false, not, ◌&&◌, Option, Some, None, List, [], ◌∷◌, ◌++◌, ◌⊎◌, option_and_then, refl, sym, ap, ◌∙◌, subst, inl, inr, true≢false}
use Rattle.std.specs.List.{list_all}
use Rattle.std.specs.Option.{option_map_or}
use Rattle.std.specs.Str.{bytes_eq}
use Rattle.std.proofs.lemmas.Bool.{and_from, cases_Bool, or_cases, or_left, or_right, false_from_ne_true}
use Rattle.std.proofs.lemmas.List.Folds.{list_any-append}
use Rattle.hx_model.specs.declared.node.Node.{Node}
use Rattle.hx_model.specs.declared.node.Halt.{Halt}
use Rattle.hx_model.specs.declared.node.Halt.TheVariants.{InCycle, ParentMissing, IllegalParent}
use Rattle.hx_model.specs.First.{so, first}
use Rattle.hx_model.specs.Forest.{Forest, is_in, names_of, node_of, is_there, is_live, is_excluded, parent_of, chain_of, in_chain, own_halt_of, halt_of, tail_of, subtree_of, is_child}
use Rattle.hx_model.specs.Moves.{chain_from}
use Rattle.hx_model.specs.TreeLabels.{is_open}
use Rattle.hx_model.proofs.Climbing.{Climbs, at_top, stopped, onward, chain-Climbs, is_same, same_itself, Above, itself, through, chain_above, above_chain, chain_trans, kept, last_in_push, one_end}
use Rattle.hx_model.proofs.Conflicting.{tail_chain, head_out}
use Rattle.hx_model.proofs.Opening.{chain_first, halts_by_members, not_live}
use Rattle.hx_model.proofs.Parents.{is_in_filter}
use Rattle.hx_model.proofs.Walking.{chain_there, chain_missing, names_have, passes_in}
use Rattle.hx_marks.specs.Law.{below_created}
use Rattle.hx_marks.proofs.Wanting.{any_flat_map}

-- the reasons that a has by itself, by what it names as its parent
abbrev pub own_by : Forest → List ℕ → Option (List ℕ) → Option Halt
own_by f a next = first (
    so (option_map_or (λ p. in_chain f p a) next false) InCycle
    ∷ so (option_map_or (λ p. not (is_live f p)) next false) ParentMissing
    ∷ so (option_map_or (λ p. is_excluded f p) next false) IllegalParent
    ∷ [])

-- a parent that isn't there is a reason
pub halted_by : (comes shut dead : Bool) → dead ≡ true → is_none (first (so comes InCycle ∷ so dead ParentMissing ∷ so shut IllegalParent ∷ [])) ≡ false
halted_by true shut dead e = refl
halted_by false shut true e = refl
halted_by false shut false e = absurd (true≢false (sym e))

alike_all : (t u : List ℕ → Bool) (xs : List (List ℕ)) → ((a : List ℕ) → is_in a xs ≡ true → t a ≡ u a) → list_all t xs ≡ list_all u xs
alike_all t u [] same = refl
alike_all t u (x ∷ xs) same =
    ap (λ b. b && list_all t xs) (same x (or_left (bytes_eq x x) (is_in x xs) (same_itself x)))
    ∙ ap (λ b. u x && b) (alike_all t u xs (λ a mem. same a (or_right (bytes_eq a x) (is_in a xs) mem)))

-- one that fails
not_all : (t : List ℕ → Bool) (a : List ℕ) (xs : List (List ℕ)) → is_in a xs ≡ true → t a ≡ false → list_all t xs ≡ false
not_all t a [] mem fails = absurd (true≢false (sym mem))
not_all t a (x ∷ xs) mem fails = elim (or_cases (bytes_eq a x) (is_in a xs) mem) [
  | inl is ↦ ap (λ b. b && list_all t xs) (ap t (sym (is_same a x is)) ∙ fails)
  | inr later ↦ ap (λ b. t x && b) (not_all t a xs later fails) ∙ never (t x)
]
  where
    never : (b : Bool) → (b && false) ≡ false
    never true = refl
    never false = refl

-- a member that isn't the first one comes later
pub in_rest : (a m : List ℕ) (xs : List (List ℕ)) → bytes_eq a m ≡ false → is_in a (m ∷ xs) ≡ true → is_in a xs ≡ true
in_rest a m xs apart mem = elim (or_cases (bytes_eq a m) (is_in a xs) mem) [ inl is ↦ absurd (true≢false (sym is ∙ apart)) | inr later ↦ later ]

abbrev pub AboveOne : Forest → Option (List ℕ) → List ℕ → Type 0
AboveOne f None a = ⊥
AboveOne f (Some p) a = Above f p a

in_from : (f : Forest) (next : Option (List ℕ)) (a : List ℕ) → AboveOne f next a → is_in a (chain_from f next) ≡ true
in_from f None a h = absurd h
in_from f (Some p) a h = above_chain f p a h

-- a forest where n is made: the others are as before
pub record IsMade (f g : Forest) (n : List ℕ) : Type 0 where
  pub absent : is_there f n ≡ false
  pub made : is_there g n ≡ true
  pub others : (m : List ℕ) → bytes_eq n m ≡ false → node_of g m ≡ node_of f m

module _ (f g : Forest) (n : List ℕ) (is_made : IsMade f g n) where
  pub there_same : (m : List ℕ) → bytes_eq n m ≡ false → is_there g m ≡ is_there f m
  there_same m off = ap is_some (is_made.others m off)

  pub parent_same : (m : List ℕ) → bytes_eq n m ≡ false → parent_of g m ≡ parent_of f m
  parent_same m off = ap (λ o. option_and_then (λ (node : Node). node.parent) o) (is_made.others m off)

  pub live_same : (m : List ℕ) → bytes_eq n m ≡ false → is_live g m ≡ is_live f m
  live_same m off = ap (λ o. option_map_or (λ (node : Node). not node.terminating) o false) (is_made.others m off)

  pub excluded_same : (m : List ℕ) → bytes_eq n m ≡ false → is_excluded g m ≡ is_excluded f m
  excluded_same m off = ap (λ o. option_map_or (λ (node : Node). node.excluded) o false) (is_made.others m off)

  -- n is in its own chain then
  pub has_itself : in_chain g n n ≡ true
  has_itself = above_chain g n n (itself is_made.made)

  -- whose chain doesn't have n is another
  pub another : (m : List ℕ) → in_chain g m n ≡ false → bytes_eq n m ≡ false
  another m out = false_from_ne_true (bytes_eq n m) (λ h. true≢false (sym (subst (λ (q : List ℕ). in_chain g q n ≡ true) (is_same n m h) has_itself) ∙ out))

  -- ---- chains without n

  as_before : (built : List (List ℕ)) (next : Option (List ℕ)) (all : List (List ℕ)) → Climbs g built next all → is_in n all ≡ false → Climbs f built next all
  as_before built None all at_top out = at_top
  as_before built (Some m) all (stopped stops) out = elim (cases_Bool (bytes_eq n m)) [
    | inl is ↦ subst (λ (q : List ℕ). Climbs f built (Some q) built) (is_same n m is) (stopped (ap (λ b. b && not (is_in n built)) is_made.absent))
    | inr off ↦ stopped (ap (λ b. b && not (is_in m built)) (sym (there_same m off)) ∙ stops)
  ]
  as_before built (Some m) all (onward goes rest) out =
      let off : bytes_eq n m ≡ false = false_from_ne_true (bytes_eq n m) (λ h. true≢false (sym (subst (λ (q : List ℕ). is_in q all ≡ true) (sym (is_same n m h)) (kept g (built ++ m ∷ []) (parent_of g m) all rest m (last_in_push built m))) ∙ out)) in
      onward (ap (λ b. b && not (is_in m built)) (sym (there_same m off)) ∙ goes) (subst (λ (p : Option (List ℕ)). Climbs f (built ++ m ∷ []) p all) (parent_same m off) (as_before (built ++ m ∷ []) (parent_of g m) all rest out))

  pub made_chain_same : (m : List ℕ) → in_chain g m n ≡ false → chain_of g m ≡ chain_of f m
  made_chain_same m out = one_end f [] (Some m) _ _ (as_before [] (Some m) (chain_of g m) (chain-Climbs g m) out) (chain-Climbs f m)

  -- a member of such a chain has the reasons that it had
  pub made_own_same : (m a : List ℕ) → in_chain g m n ≡ false → is_in a (chain_of g m) ≡ true → own_halt_of g a ≡ own_halt_of f a
  made_own_same m a out mem = by (parent_of g a) refl
    where
      off : bytes_eq n a ≡ false
      off = another a (false_from_ne_true (in_chain g a n) (λ h. true≢false (sym (chain_trans g m a n mem h) ∙ out)))

      by : (next : Option (List ℕ)) → parent_of g a ≡ next → own_halt_of g a ≡ own_halt_of f a
      by None is = ap (λ o. own_by g a o) is ∙ sym (ap (λ o. own_by f a o) (sym (parent_same a off) ∙ is))
      by (Some q) is =
          let above : in_chain g q n ≡ false = false_from_ne_true (in_chain g q n) (λ h. true≢false (sym (chain_trans g m a n mem (above_chain g a n (through ((chain_there g m).there a mem) is (chain_above g q n h)))) ∙ out)) in
          ap (λ o. own_by g a o) is
          ∙ (λ i. first (so (is_in a (made_chain_same q above i)) InCycle ∷ so (not (live_same q (another q above) i)) ParentMissing ∷ so (excluded_same q (another q above) i) IllegalParent ∷ []))
          ∙ sym (ap (λ o. own_by f a o) (sym (parent_same a off) ∙ is))

  pub made_open_same : (m : List ℕ) → in_chain g m n ≡ false → is_open g m ≡ is_open f m
  made_open_same m out = elim (cases_Bool (is_there g m)) [
    | inl there ↦
        let same : is_none (halt_of g m) ≡ is_none (halt_of f m) =
        halts_by_members g m there
        ∙ alike_all (λ a. is_none (own_halt_of g a)) (λ a. is_none (own_halt_of f a)) (chain_of g m) (λ a mem. ap (λ o. is_none o) (made_own_same m a out mem))
        ∙ ap (list_all (λ a. is_none (own_halt_of f a))) (made_chain_same m out)
        ∙ sym (halts_by_members f m (sym (there_same m (another m out)) ∙ there)) in
        (λ i. live_same m (another m out) i && (not (excluded_same m (another m out) i) && same i))
    | inr gone ↦
        ap (λ b. b && (not (is_excluded g m) && is_none (halt_of g m))) (not_live g m gone)
        ∙ sym (ap (λ b. b && (not (is_excluded f m) && is_none (halt_of f m))) (not_live f m (sym (there_same m (another m out)) ∙ gone)))
  ]

  -- ---- chains that have n

  -- the last one before n named it as its parent
  pub made_comes_to : (m : List ℕ) → Above g m n → (m ≡ n) ⊎ ((q : List ℕ) × Above f m q × (parent_of f q ≡ Some n))
  made_comes_to m (itself there) = inl refl
  made_comes_to m (through {p = p} there is rest) = elim (cases_Bool (bytes_eq n m)) [
    | inl same ↦ inl (sym (is_same n m same))
    | inr off ↦
        let here : is_there f m ≡ true = sym (there_same m off) ∙ there in
        let named : parent_of f m ≡ Some p = sym (parent_same m off) ∙ is in
        elim (made_comes_to p rest) [
          | inl at ↦ inr (m, itself here, named ∙ ap (λ (q : List ℕ). Some q) at)
          | inr (q, above, names) ↦ inr (q, through here named above, names)
        ]
  ]

  -- it didn't take part: it wasn't there, or one of its chain named n
  pub made_not_open : (m : List ℕ) → in_chain g m n ≡ true → is_open f m ≡ false
  made_not_open m has = elim (made_comes_to m (chain_above g m n has)) [
    | inl is ↦ ap (λ b. b && (not (is_excluded f m) && is_none (halt_of f m))) (not_live f m (ap (is_there f) is ∙ is_made.absent))
    | inr (q, above, names) ↦
        let there : is_there f m ≡ true = first_there m q above in
        let reason : is_none (own_halt_of f q) ≡ false =
        ap (λ o. is_none (own_by f q o)) names ∙ halted_by (in_chain f n q) (is_excluded f n) (not (is_live f n)) (ap not (not_live f n is_made.absent)) in
        ap (λ b. is_live f m && (not (is_excluded f m) && b)) (halts_by_members f m there ∙ not_all (λ a. is_none (own_halt_of f a)) q (chain_of f m) (above_chain f m q above) reason)
        ∙ never (is_live f m) (not (is_excluded f m))
  ]
    where
      never : (a b : Bool) → (a && (b && false)) ≡ false
      never true true = refl
      never true false = refl
      never false b = refl

      first_there : (m q : List ℕ) → Above f m q → is_there f m ≡ true
      first_there m q (itself there) = there
      first_there m q (through there is rest) = there

  -- it is n, or lies below one that names n
  pub made_below : (m : List ℕ) → in_chain g m n ≡ true → is_in m (below_created f n) ≡ true
  made_below m has = elim (made_comes_to m (chain_above g m n has)) [
    | inl is ↦ or_left (bytes_eq m n) _ (subst (λ (q : List ℕ). bytes_eq m q ≡ true) is (same_itself m))
    | inr (q, above, names) ↦
        or_right (bytes_eq m n) _ (any_flat_map (bytes_eq m) (subtree_of f) (filter (is_child f n) (names_of f))
        ∙ passes_in (λ p. is_in m (subtree_of f p)) q (filter (is_child f n) (names_of f)) (child q (above_there q above) names) (below m q above))
  ]
    where
      there_at : (m q : List ℕ) → Above f m q → is_there f m ≡ true
      there_at m q (itself there) = there
      there_at m q (through there is rest) = there

      above_there : (q : List ℕ) → Above f m q → is_there f q ≡ true
      above_there q above = (chain_there f m).there q (above_chain f m q above)

      child : (q : List ℕ) → is_there f q ≡ true → parent_of f q ≡ Some n → is_in q (filter (is_child f n) (names_of f)) ≡ true
      child q there names =
          is_in_filter (is_child f n) q (names_of f)
          ∙ and_from (is_in q (names_of f)) (is_child f n q) (sym (names_have f q) ∙ there) (ap (λ o. option_map_or (bytes_eq n) o false) names ∙ same_itself n)

      below : (m q : List ℕ) → Above f m q → is_in m (subtree_of f q) ≡ true
      below m q above =
          is_in_filter (λ p. in_chain f p q) m (names_of f)
          ∙ and_from (is_in m (names_of f)) (in_chain f m q) (sym (names_have f m) ∙ there_at m q above) (above_chain f m q above)

  -- ---- who is in such a chain

  pub made_members : (m a : List ℕ) → Above g m a → (a ≡ n) ⊎ Above f m a ⊎ AboveOne f (parent_of g n) a
  made_members m a (itself there) = elim (cases_Bool (bytes_eq n m)) [
    | inl same ↦ inl (sym (is_same n m same))
    | inr off ↦ inr (inl (itself (sym (there_same m off) ∙ there)))
  ]
  made_members m a (through {p = p} there is rest) = elim (made_members p a rest) [
    | inl at ↦ inl at
    | inr (inr far) ↦ inr (inr far)
    | inr (inl near) ↦ elim (cases_Bool (bytes_eq n m)) [
      | inl same ↦ inr (inr (subst (λ (o : Option (List ℕ)). AboveOne f o a) (sym (ap (parent_of g) (is_same n m same) ∙ is)) near))
      | inr off ↦ inr (inl (through (sym (there_same m off) ∙ there) (sym (parent_same m off) ∙ is) near))
    ]
  ]

  whole : (m a : List ℕ) → Above g m a → is_in a (chain_of f m ++ n ∷ chain_from f (parent_of g n)) ≡ true
  whole m a above =
      list_any-append (bytes_eq a) (chain_of f m) (n ∷ chain_from f (parent_of g n))
      ∙ elim (made_members m a above) [
        | inl at ↦ or_right (is_in a (chain_of f m)) _ (or_left (bytes_eq a n) _ (subst (λ (q : List ℕ). bytes_eq a q ≡ true) at (same_itself a)))
        | inr (inl near) ↦ or_left (is_in a (chain_of f m)) _ (above_chain f m a near)
        | inr (inr far) ↦ or_right (is_in a (chain_of f m)) _ (or_right (bytes_eq a n) _ (in_from f (parent_of g n) a far))
      ]

  -- the list begins with m
  head : (m : List ℕ) → is_there g m ≡ true → (c : List (List ℕ)) → chain_of f m ++ n ∷ c ≡ m ∷ tail_of (chain_of f m ++ n ∷ c)
  head m there c = elim (cases_Bool (bytes_eq n m)) [
    | inl same ↦ gone (is_same n m same) (ap (chain_of f) (sym (is_same n m same)) ∙ chain_missing f n is_made.absent)
    | inr off ↦
        let first : chain_of f m ≡ m ∷ tail_of (chain_of f m) = chain_first f m (sym (there_same m off) ∙ there) in
        ap (λ xs. xs ++ n ∷ c) first ∙ sym (ap (λ xs. m ∷ tail_of (xs ++ n ∷ c)) first)
  ]
    where
      gone : n ≡ m → chain_of f m ≡ [] → chain_of f m ++ n ∷ c ≡ m ∷ tail_of (chain_of f m ++ n ∷ c)
      gone is none = ap (λ xs. xs ++ n ∷ c) none ∙ ap (λ (q : List ℕ). q ∷ c) is ∙ sym (ap (λ xs. m ∷ tail_of (xs ++ n ∷ c)) none)

  pub made_tail : (m a : List ℕ) → is_in a (tail_of (chain_of g m)) ≡ true → is_in a (tail_of (chain_of f m ++ n ∷ chain_from f (parent_of g n))) ≡ true
  made_tail m a mem =
      let above : Above g m a = chain_above g m a (tail_chain g m a mem) in
      let apart : bytes_eq a m ≡ false = false_from_ne_true (bytes_eq a m) (λ h. true≢false (sym (subst (λ (q : List ℕ). is_in q (tail_of (chain_of g m)) ≡ true) (is_same a m h) mem) ∙ head_out g m)) in
      in_rest a m (tail_of (chain_of f m ++ n ∷ chain_from f (parent_of g n))) apart
      (sym (ap (is_in a) (head m (starts m a above) (chain_from f (parent_of g n)))) ∙ whole m a above)
    where
      starts : (m a : List ℕ) → Above g m a → is_there g m ≡ true
      starts m a (itself there) = there
      starts m a (through there is rest) = there
