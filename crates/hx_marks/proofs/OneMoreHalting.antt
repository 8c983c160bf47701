-- Why a namespace is halted where another is made: n isn't there in the forest f, is there in g, and all else is as before.
--     named, names       who is a child names its parent, and back
--     eligible_there, eligible_live   one that is eligible is there;  one that isn't live isn't eligible
--     eligible_same          another is eligible as before
--     child_below        who names n is below it
--     ring_back          two that are below one another come back to themselves
--     halt_apart         one whose chain doesn't have n is halted as before
--     halt_below         so is one below n that doesn't name it, where n isn't live in g, and isn't below that one
use Rattle.std.specs.Prelude.{is_some}
use Rattle.std.proofs.Common.{◌≡◌, ℕ, Bool, true, false, not, ◌&&◌, ◌||◌, Option, Some, None, List, [], ◌∷◌, refl, sym, ap, ◌∙◌, subst, inl, inr, true≢false}
use Rattle.std.specs.List.{list_any}
use Rattle.std.specs.Option.{option_map_or}
use Rattle.std.specs.Str.{bytes_eq}
use Rattle.std.proofs.lemmas.Bool.{and_parts, cases_Bool, or_left, or_right, false_from_ne_true}
use Rattle.hx_model.specs.declared.node.Halt.TheVariants.{InCycle, ParentMissing, IllegalParent, Ancestor}
use Rattle.hx_model.specs.First.{so, first}
use Rattle.hx_model.specs.Forest.{Forest, is_in, is_there, is_live, is_excluded, parent_of, chain_of, in_chain, comes_back, own_halt_of, has_halted_ancestor, halt_of, tail_of, is_child}
use Rattle.hx_model.specs.Moves.{is_eligible}
use Rattle.hx_model.proofs.Climbing.{Above, itself, through, chain_above, above_chain, chain_trans, is_same, same_itself}
use Rattle.hx_model.proofs.Conflicting.{tail_chain}
use Rattle.hx_model.proofs.Opening.{chain_first, not_live}
use Rattle.hx_model.proofs.Walking.{both}
use Rattle.hx_marks.proofs.Among.{passing_name}
use Rattle.hx_marks.proofs.CreatedChains.{IsMade, AboveOne, own_by, in_rest, there_same, parent_same, live_same, excluded_same, made_chain_same, made_own_same, made_comes_to, made_members}

-- ---- one forest

-- who is a child names its parent
pub named : (f : Forest) (n m : List ℕ) → is_child f n m ≡ true → parent_of f m ≡ Some n
named f n m h = by (parent_of f m) h
  where
    by : (o : Option (List ℕ)) → option_map_or (bytes_eq n) o false ≡ true → o ≡ Some n
    by None e = absurd (true≢false (sym e))
    by (Some p) e = ap (λ (q : List ℕ). Some q) (sym (is_same n p e))

pub names : (f : Forest) (n m : List ℕ) → parent_of f m ≡ Some n → is_child f n m ≡ true
names f n m is = ap (λ o. option_map_or (bytes_eq n) o false) is ∙ same_itself n

pub eligible_there : (f : Forest) (n : List ℕ) → is_eligible f n ≡ true → is_there f n ≡ true
eligible_there f n h = elim (cases_Bool (is_there f n)) [
  | inl there ↦ there
  | inr out ↦ absurd (true≢false (sym (and_parts (is_live f n) _ h).0 ∙ not_live f n out))
]

pub eligible_live : (f : Forest) (n : List ℕ) → is_live f n ≡ false → is_eligible f n ≡ false
eligible_live f n dead = ap (λ b. b && not (is_excluded f n)) dead

-- two that are below one another come back to themselves
pub ring_back : (f : Forest) (a b : List ℕ) → bytes_eq a b ≡ false → in_chain f a b ≡ true → in_chain f b a ≡ true → comes_back f a ≡ true
ring_back f a b off up down = by a b (chain_above f a b up) off down
  where
    by : (x y : List ℕ) → Above f x y → bytes_eq x y ≡ false → in_chain f y x ≡ true → comes_back f x ≡ true
    by x y (itself there) apart has = absurd (true≢false (sym (same_itself x) ∙ apart))
    by x y (through {p = p} there is rest) apart has = ap (λ o. option_map_or (λ q. in_chain f q x) o false) is ∙ chain_trans f p y x (above_chain f p y rest) has

any_alike : (t u : List ℕ → Bool) (xs : List (List ℕ)) → ((a : List ℕ) → is_in a xs ≡ true → t a ≡ u a) → list_any t xs ≡ list_any u xs
any_alike t u [] same = refl
any_alike t u (x ∷ xs) same =
    ap (λ b. b || list_any t xs) (same x (or_left (bytes_eq x x) (is_in x xs) (same_itself x)))
    ∙ ap (λ b. u x || b) (any_alike t u xs (λ a mem. same a (or_right (bytes_eq a x) (is_in a xs) mem)))

-- a parent that isn't live is a reason
some_by : (comes shut dead : Bool) → dead ≡ true → is_some (first (so comes InCycle ∷ so dead ParentMissing ∷ so shut IllegalParent ∷ [])) ≡ true
some_by true shut dead e = refl
some_by false shut true e = refl
some_by false shut false e = absurd (true≢false (sym e))

-- a later member of the chain whose parent isn't live
halts_later : (f : Forest) (n m q : List ℕ) → is_there f m ≡ true → bytes_eq q m ≡ false → in_chain f m q ≡ true → parent_of f q ≡ Some n → is_live f n ≡ false → has_halted_ancestor f m ≡ true
halts_later f n m q there off has is dead =
    passing_name (λ a. is_some (own_halt_of f a)) q (tail_of (chain_of f m))
    (in_rest q m (tail_of (chain_of f m)) off (sym (ap (is_in q) (chain_first f m there)) ∙ has))
    (ap (λ o. is_some (own_by f q o)) is ∙ some_by (in_chain f n q) (is_excluded f n) (not (is_live f n)) (ap not dead))

-- ---- two forests

module _ (f g : Forest) (n : List ℕ) (is_made : IsMade f g n) where
  pub eligible_same : (m : List ℕ) → bytes_eq n m ≡ false → is_eligible g m ≡ is_eligible f m
  eligible_same m off = λ i. live_same f g n is_made m off i && not (excluded_same f g n is_made m off i)

  pub child_below : (m : List ℕ) → is_there g m ≡ true → is_child g n m ≡ true → in_chain g m n ≡ true
  child_below m there child = above_chain g m n (through there (named g n m child) (itself is_made.made))

  -- one whose chain doesn't have n is halted as before
  pub halt_apart : (m : List ℕ) → is_there g m ≡ true → in_chain g m n ≡ false → halt_of g m ≡ halt_of f m
  halt_apart m there out = λ i. first (made_own_same f g n is_made m m out (above_chain g m m (itself there)) i ∷ so (later i) Ancestor ∷ [])
    where
      later : has_halted_ancestor g m ≡ has_halted_ancestor f m
      later =
          any_alike (λ a. is_some (own_halt_of g a)) (λ a. is_some (own_halt_of f a)) (tail_of (chain_of g m)) (λ a mem. ap (λ o. is_some o) (made_own_same f g n is_made m a out (tail_chain g m a mem)))
          ∙ ap (λ xs. list_any (λ a. is_some (own_halt_of f a)) (tail_of xs)) (made_chain_same f g n is_made m out)

  -- ---- what was above before is above then

  off_there : (a : List ℕ) → is_there f a ≡ true → bytes_eq n a ≡ false
  off_there a there = false_from_ne_true (bytes_eq n a) (λ h. true≢false (sym there ∙ ap (is_there f) (sym (is_same n a h)) ∙ is_made.absent))

  above_more : (a b : List ℕ) → Above f a b → Above g a b
  above_more a b (itself there) = itself (there_same f g n is_made a (off_there a there) ∙ there)
  above_more a b (through {p = p} there is rest) = through (there_same f g n is_made a (off_there a there) ∙ there) (parent_same f g n is_made a (off_there a there) ∙ is) (above_more p b rest)

  -- what was above the parent of n is above n
  above_n : (next : Option (List ℕ)) (a : List ℕ) → parent_of g n ≡ next → AboveOne f next a → in_chain g n a ≡ true
  above_n None a is far = absurd far
  above_n (Some p) a is far = above_chain g n a (through is_made.made is (above_more p a far))

  -- ---- one below n that doesn't name it

  module _ (m : List ℕ) (off : bytes_eq n m ≡ false) (there : is_there g m ≡ true) (has : in_chain g m n ≡ true) (dead : is_live g n ≡ false) (childless : is_child g n m ≡ false) (ringless : in_chain g n m ≡ false) where
    there_before : is_there f m ≡ true
    there_before = sym (there_same f g n is_made m off) ∙ there

    -- who has it in its chain has had it
    back_same : (q : List ℕ) → in_chain g q m ≡ in_chain f q m
    back_same q = both (in_chain g q m) (in_chain f q m)
        (λ h. elim (made_members f g n is_made q m (chain_above g q m h)) [
          | inl at ↦ absurd (true≢false (sym (subst (λ (x : List ℕ). bytes_eq n x ≡ true) (sym at) (same_itself n)) ∙ off))
          | inr (inl near) ↦ above_chain f q m near
          | inr (inr far) ↦ absurd (true≢false (sym (above_n (parent_of g n) m refl far) ∙ ringless))
        ])
        (λ h. above_chain g q m (above_more q m (chain_above f q m h)))

    own_below : (next : Option (List ℕ)) → parent_of g m ≡ next → own_halt_of g m ≡ own_halt_of f m
    own_below None is = ap (λ o. own_by g m o) is ∙ sym (ap (λ o. own_by f m o) (sym (parent_same f g n is_made m off) ∙ is))
    own_below (Some q) is =
        let other : bytes_eq n q ≡ false = sym (ap (λ o. option_map_or (bytes_eq n) o false) is) ∙ childless in
        ap (λ o. own_by g m o) is
        ∙ (λ i. first (so (back_same q i) InCycle ∷ so (not (live_same f g n is_made q other i)) ParentMissing ∷ so (excluded_same f g n is_made q other i) IllegalParent ∷ []))
        ∙ sym (ap (λ o. own_by f m o) (sym (parent_same f g n is_made m off) ∙ is))

    -- the one before n in its chain has a reason, before and then
    later_both : (has_halted_ancestor g m ≡ true) × (has_halted_ancestor f m ≡ true)
    later_both = elim (made_comes_to f g n is_made m (chain_above g m n has)) [
      | inl at ↦ absurd (true≢false (sym (subst (λ (x : List ℕ). bytes_eq n x ≡ true) (sym at) (same_itself n)) ∙ off))
      | inr (q, above, is) ↦
          let mem : in_chain f m q ≡ true = above_chain f m q above in
          let apart : bytes_eq q m ≡ false = false_from_ne_true (bytes_eq q m) (λ h. true≢false (sym (names g n m (parent_same f g n is_made m off ∙ ap (parent_of f) (sym (is_same q m h)) ∙ is)) ∙ childless)) in
          let mem_then : in_chain g m q ≡ true = above_chain g m q (above_more m q above) in
          let is_then : parent_of g q ≡ Some n = parent_same f g n is_made q (off_there q (last_there m q above)) ∙ is in
          (halts_later g n m q there apart mem_then is_then dead, halts_later f n m q there_before apart mem is (not_live f n is_made.absent))
    ]
      where
        last_there : (a b : List ℕ) → Above f a b → is_there f b ≡ true
        last_there a b (itself here) = here
        last_there a b (through {p = p} here is rest) = last_there p b rest

    pub halt_below : halt_of g m ≡ halt_of f m
    halt_below = λ i. first (own_below (parent_of g m) refl i ∷ so ((later_both.0 ∙ sym later_both.1) i) Ancestor ∷ [])
