-- Rings that are cut open at their least place.
--     noted_more         one more is noted
--     noted_at           what is noted is so for every place
--     least_step, ..     the least place of a walk
--     bridge             a walk that is cut comes to the seam of a ring exactly where a whole one comes to the ring
use Rattle.std.proofs.Common.{◌≡◌, ℕ, zero, suc, ◌+◌, ◌<◌, ◌≤◌, eqb, eqb-true, eq-eqb, Bool, true, false, cond, ◌||◌, ◌⊎◌, inl, inr, List, [], ◌∷◌, ◌++◌, length, Option, Some, None, refl, sym, ap, ◌∙◌, subst, arith, true≢false}
use Rattle.std.specs.Prelude.{is_some, min}
use Rattle.std.specs.Option.{option_map_or}
use Rattle.std.proofs.lemmas.Bool.{false_from_ne_true}
use Rattle.std.proofs.lemmas.List.{length-map, get_or_past}
use Rattle.std.proofs.lemmas.Option.{none-some, same_Some}
use Rattle.hx_model.specs.Forest.{Forest, chain_of, comes_back, in_chain, is_in, parent_of}
use Rattle.hx_model.specs.declared.node.Node.{Node}
use Rattle.hx_model.proofs.Climbing.{Above, itself, through, above_chain, chain_above, chain_trans}
use Rattle.hx_model.proofs.Walking.{both}
use Rattle.hx_survey.specs.Inside.{place_at, place_of, up_at, ups_of, walk_at}
use Rattle.hx_survey.specs.Seams.{AreCuts, AreSeams, IsNoted, cut_at, is_seam, least_on, seam_at, shared_at}
use Rattle.hx_survey.specs.Sums.{reaches}
use Rattle.hx_survey.proofs.Flowing.{walk_none}
use Rattle.hx_survey.proofs.Placed.{found_at}
use Rattle.hx_survey.proofs.Walked.{comes_to, passes_chain, up_there}

-- ---- what is noted

at_push : (told : ℕ → Option ℕ) (xs : List (Option ℕ)) (y : Option ℕ) → ((k : ℕ) → k < length xs → up_at xs k ≡ told k) → y ≡ told (length xs) → (k : ℕ) → k < length (xs ++ y ∷ []) → up_at (xs ++ y ∷ []) k ≡ told k
at_push told [] y so is zero fits = is
at_push told [] y so is (suc k) fits = absurd (omega (arith, fits))
at_push told (x ∷ xs) y so is zero fits = so zero (omega arith)
at_push told (x ∷ xs) y so is (suc k) fits = at_push (λ i. told (suc i)) xs y (λ i h. so (suc i) (omega (arith, h))) is k (omega (arith, fits))

long_push : (xs : List (Option ℕ)) (y : Option ℕ) → length (xs ++ y ∷ []) ≡ length xs + 1
long_push [] y = omega arith
long_push (x ∷ xs) y = omega (arith, long_push xs y)

-- one more is noted
pub noted_more : (told : ℕ → Option ℕ) (xs new : List (Option ℕ)) (y : Option ℕ) (place : ℕ) → IsNoted told xs place → new ≡ xs ++ y ∷ [] → y ≡ told place → IsNoted told new (place + 1)
noted_more told xs new y place so_far is here = subst (λ (ns : List (Option ℕ)). IsNoted told ns (place + 1)) (sym is) (record {
  many = omega (arith, long_push xs y, so_far.many);
  each = at_push told xs y so_far.each (here ∙ ap told (sym so_far.many));
})

-- what is noted is so for every place
noted_at : (told : ℕ → Option ℕ) (ups noted : List (Option ℕ)) → IsNoted told noted (length ups) → ((k : ℕ) → up_at ups k ≡ None → told k ≡ None) → (k : ℕ) → up_at noted k ≡ told k
noted_at told ups noted is past k = by (le_or k (length noted))
  where
    le_or : (i n : ℕ) → (i < n) ⊎ (n ≤ i)
    le_or i zero = inr (omega arith)
    le_or zero (suc n) = inl (omega arith)
    le_or (suc i) (suc n) = elim (le_or i n) [ inl less ↦ inl (omega (arith, less)) | inr more ↦ inr (omega (arith, more)) ]

    by : (k < length noted) ⊎ (length noted ≤ k) → up_at noted k ≡ told k
    by (inl less) = is.each k less
    by (inr more) = get_or_past noted k None more ∙ sym (past k (get_or_past ups k None (omega (arith, more, is.many))))

-- ---- the least place of a walk

min_left : (a b : ℕ) → min a b ≤ a
min_left a b = omega arith

min_right : (a b : ℕ) → min a b ≤ b
min_right a b = omega arith

least_below : (left : ℕ) (ups : List (Option ℕ)) (at : Option ℕ) (least : ℕ) → least_on left ups at least ≤ least
least_below zero ups at least = omega arith
least_below (suc left) ups None least = omega arith
least_below (suc left) ups (Some i) least = omega (arith, least_below left ups (up_at ups i) (min least i), min_left least i)

least_passed : (left : ℕ) (ups : List (Option ℕ)) (at : Option ℕ) (least x : ℕ) → walk_at (λ i. eqb i x) left ups at ≡ true → least_on left ups at least ≤ x
least_passed zero ups at least x h = absurd (true≢false (sym h))
least_passed (suc left) ups None least x h = absurd (true≢false (sym h))
least_passed (suc left) ups (Some i) least x h = elim (eqb i x) as (λ b. eqb i x ≡ b → (b || walk_at (λ j. eqb j x) left ups (up_at ups i)) ≡ true → least_on left ups (up_at ups i) (min least i) ≤ x) [
  | true ↦ λ same _. omega (arith, eqb-true i x same, least_below left ups (up_at ups i) (min least i), min_right least i)
  | false ↦ λ out later. least_passed left ups (up_at ups i) (min least i) x later
] refl h

min_or : (a b : ℕ) → (min a b ≡ a) ⊎ (min a b ≡ b)
min_or a zero = inr (omega arith)
min_or zero (suc b) = inl (omega arith)
min_or (suc a) (suc b) = elim (min_or a b) [ inl is ↦ inl (omega (arith, is)) | inr is ↦ inr (omega (arith, is)) ]

-- it is the one before, or the walk passes it
least_or : (left : ℕ) (ups : List (Option ℕ)) (at : Option ℕ) (least : ℕ) → (least_on left ups at least ≡ least) ⊎ (walk_at (λ i. eqb i (least_on left ups at least)) left ups at ≡ true)
least_or zero ups at least = inl refl
least_or (suc left) ups None least = inl refl
least_or (suc left) ups (Some i) least = by (least_or left ups (up_at ups i) (min least i)) (min_or least i)
  where
    found : ℕ
    found = least_on left ups (up_at ups i) (min least i)

    by : (found ≡ min least i) ⊎ (walk_at (λ j. eqb j found) left ups (up_at ups i) ≡ true) → (min least i ≡ least) ⊎ (min least i ≡ i) → (found ≡ least) ⊎ ((eqb i found || walk_at (λ j. eqb j found) left ups (up_at ups i)) ≡ true)
    by (inl is) (inl old) = inl (is ∙ old)
    by (inl is) (inr new) = inr (ap (λ b. b || walk_at (λ j. eqb j found) left ups (up_at ups i)) (eq-eqb i found (sym (is ∙ new))))
    by (inr later) _ = inr (later_too (eqb i found) (walk_at (λ j. eqb j found) left ups (up_at ups i)) later)
      where
        later_too : (a b : Bool) → b ≡ true → (a || b) ≡ true
        later_too true b h = refl
        later_too false b h = h

more_steps : (test : ℕ → Bool) (left n : ℕ) (ups : List (Option ℕ)) (at : Option ℕ) → left ≤ n → walk_at test left ups at ≡ true → walk_at test n ups at ≡ true
more_steps test zero n ups at fits h = absurd (true≢false (sym h))
more_steps test (suc left) zero ups at fits h = absurd (omega (arith, fits))
more_steps test (suc left) (suc n) ups None fits h = h
more_steps test (suc left) (suc n) ups (Some i) fits h = elim (test i) as (λ b. (b || walk_at test left ups (up_at ups i)) ≡ true → (b || walk_at test n ups (up_at ups i)) ≡ true) [
  | true ↦ λ _. refl
  | false ↦ λ later. more_steps test left n ups (up_at ups i) (omega (arith, fits)) later
] h

-- ---- walks between namespaces that are there

pub record At (f : Forest) (k : ℕ) : Type 0 where
  pub n : List ℕ
  pub here : place_of f n ≡ Some k

pub as_many : (f : Forest) → length (ups_of f) ≡ length f
as_many f = length-map f (λ (e : List ℕ × Node). place_at f (e.1).parent)

next_above : (f : Forest) (m k : List ℕ) → Above f m k → (m ≡ k) ⊎ ((p : List ℕ) × (parent_of f m ≡ Some p) × Above f p k)
next_above f m k (itself there) = inl refl
next_above f m k (through {p = p} there is rest) = inr (p, is, rest)

-- whoever a member of a ring reaches reaches it
back : (f : Forest) (n m k : List ℕ) → comes_back f n ≡ true → Above f m k → is_in n (chain_of f m) ≡ true → is_in n (chain_of f k) ≡ true
back f n m k ring (itself there) h = h
back f n m k ring (through {p = p} there is rest) h = back f n p k ring rest (elim (next_above f m n (chain_above f m n h)) [
  | inl same ↦ sym (ap (λ (o : Option (List ℕ)). option_map_or (λ q. in_chain f q n) o false) (ap (parent_of f) (sym same) ∙ is)) ∙ ring
  | inr more ↦ subst (λ (q : List ℕ). is_in n (chain_of f q) ≡ true) (same_Some more.0 p (sym more.1 ∙ is)) (above_chain f more.0 n more.2)
])

module _ (f : Forest) where
  -- a walk up comes to a
  abbrev W : ℕ → Option ℕ → Bool
  W a at = walk_at (λ i. eqb i a) (length (ups_of f)) (ups_of f) at

  r_chain : (q a : ℕ) (x : At f q) (y : At f a) → W a (Some q) ≡ in_chain f x.n y.n
  r_chain q a x y = ap (λ l. walk_at (λ i. eqb i a) l (ups_of f) (Some q)) (as_many f) ∙ sym (ap (walk_at (λ i. eqb i a) (length f) (ups_of f)) x.here) ∙ passes_chain f x.n y.n a y.here

  c_back : (q : ℕ) (x : At f q) → W q (up_at (ups_of f) q) ≡ comes_back f x.n
  c_back q x = ap (λ l. walk_at (λ i. eqb i q) l (ups_of f) (up_at (ups_of f) q)) (as_many f) ∙ comes_to f x.n q x.here

  parent_place : (q : ℕ) (x : At f q) (p : List ℕ) → parent_of f x.n ≡ Some p → up_at (ups_of f) q ≡ place_of f p
  parent_place q x p is = up_there f x.n q x.here ∙ ap (place_at f) is

  named_up : (q u : ℕ) → At f q → up_at (ups_of f) q ≡ Some u → At f u
  named_up q u x up = by (parent_of f x.n) refl
    where
      by : (o : Option (List ℕ)) → parent_of f x.n ≡ o → At f u
      by None is = absurd (none-some u (sym (sym up ∙ up_there f x.n q x.here ∙ ap (place_at f) is)))
      by (Some p) is = record { n = p; here = sym (parent_place q x p is) ∙ up }

  self_above : (q : ℕ) (x : At f q) → is_in x.n (chain_of f x.n) ≡ true
  self_above q x = above_chain f x.n x.n (itself (ap (λ (o : Option Node). is_some o) (found_at f x.n q x.here).found))

  self_w : (q : ℕ) → At f q → W q (Some q) ≡ true
  self_w q x = r_chain q q x x ∙ self_above q x

  joined : (q b a : ℕ) → At f q → At f b → At f a → W b (Some q) ≡ true → W a (Some b) ≡ true → W a (Some q) ≡ true
  joined q b a x y z h g = r_chain q a x z ∙ chain_trans f x.n y.n z.n (sym (r_chain q b x y) ∙ h) (sym (r_chain b a y z) ∙ g)

  further_on : (q a : ℕ) → At f q → At f a → eqb q a ≡ false → W a (Some q) ≡ true → W a (up_at (ups_of f) q) ≡ true
  further_on q a x y out h = elim (next_above f x.n y.n (chain_above f x.n y.n (sym (r_chain q a x y) ∙ h))) [
    | inl same ↦ absurd (true≢false (sym (eq-eqb q a (same_Some q a (sym x.here ∙ ap (place_of f) same ∙ y.here))) ∙ out))
    | inr more ↦
        ap (W a) (parent_place q x more.0 more.1)
        ∙ ap (λ l. walk_at (λ i. eqb i a) l (ups_of f) (place_of f more.0)) (as_many f)
        ∙ passes_chain f more.0 y.n a y.here
        ∙ above_chain f more.0 y.n more.2
  ]

  turn : (q a : ℕ) → At f q → At f a → W q (up_at (ups_of f) q) ≡ true → W a (Some q) ≡ true → W q (Some a) ≡ true
  turn q a x y ring h = r_chain a q y x ∙ back f x.n x.n y.n (sym (c_back q x) ∙ ring) (chain_above f x.n y.n (sym (r_chain q a x y) ∙ h)) (self_above q x)

  flip : (i k : ℕ) → eqb i k ≡ false → eqb k i ≡ false
  flip i k out = false_from_ne_true (eqb k i) (λ e. true≢false (sym (eq-eqb i k (sym (eqb-true k i e))) ∙ out))

  -- whom a member of a ring reaches is in the ring too
  ring_too : (q a : ℕ) → At f q → At f a → W q (up_at (ups_of f) q) ≡ true → W a (Some q) ≡ true → W a (up_at (ups_of f) a) ≡ true
  ring_too q a x y ring h = elim (eqb q a) as (λ b. eqb q a ≡ b → W a (up_at (ups_of f) a) ≡ true) [
    | true ↦ λ same. subst (λ (k : ℕ). W k (up_at (ups_of f) k) ≡ true) (eqb-true q a same) ring
    | false ↦ λ out. by (up_at (ups_of f) a) refl (further_on a q y x (flip q a out) (turn q a x y ring h))
  ] refl
    where
      by : (o : Option ℕ) → up_at (ups_of f) a ≡ o → W q (up_at (ups_of f) a) ≡ true → W a (up_at (ups_of f) a) ≡ true
      by None is g = absurd (true≢false (sym g ∙ ap (W q) is ∙ walk_none (λ i. eqb i q) (length (ups_of f)) (ups_of f)))
      by (Some u) is g = ap (W a) is ∙ joined u q a (named_up a u y is) x y (sym (ap (W q) is) ∙ g) h

  on_walk : (left q m : ℕ) → At f q → walk_at (λ i. eqb i m) left (ups_of f) (Some q) ≡ true → At f m
  on_walk zero q m x h = absurd (true≢false (sym h))
  on_walk (suc left) q m x h = elim (eqb q m) as (λ b. eqb q m ≡ b → (b || walk_at (λ i. eqb i m) left (ups_of f) (up_at (ups_of f) q)) ≡ true → At f m) [
    | true ↦ λ same _. subst (At f) (eqb-true q m same) x
    | false ↦ λ out later. by (λ u is. on_walk left u m (named_up q u x is)) (up_at (ups_of f) q) refl later
  ] refl h
    where
      by : ((u : ℕ) → up_at (ups_of f) q ≡ Some u → walk_at (λ i. eqb i m) left (ups_of f) (Some u) ≡ true → At f m) → (o : Option ℕ) → up_at (ups_of f) q ≡ o → walk_at (λ i. eqb i m) left (ups_of f) o ≡ true → At f m
      by next None is g = absurd (true≢false (sym g ∙ walk_none (λ i. eqb i m) left (ups_of f)))
      by next (Some u) is g = next u is g

  module _ (seams cuts : List (Option ℕ)) (seamed : (k : ℕ) → up_at seams k ≡ seam_at (ups_of f) k) (cut : (k : ℕ) → up_at cuts k ≡ cut_at (ups_of f) seams k) where
    -- the place that has the sum of k: both reach each other, and in a ring it is the least
    record IsShared (k s : ℕ) : Type 0 where
      at : At f s
      to : W s (Some k) ≡ true
      from : W k (Some s) ≡ true
      ring : W k (up_at (ups_of f) k) ≡ true → (x : ℕ) → W x (Some k) ≡ true → s ≤ x
      alone : W k (up_at (ups_of f) k) ≡ false → s ≡ k

    shared : (k : ℕ) → At f k → IsShared k (shared_at seams k)
    shared k x = by (W k (up_at (ups_of f) k)) refl
      where
        least : ℕ
        least = least_on (length (ups_of f)) (ups_of f) (Some k) k

        told : (b : Bool) → W k (up_at (ups_of f) k) ≡ b → shared_at seams k ≡ option_map_or (λ seam. seam) (cond b (Some least) None) k
        told b is = ap (λ (o : Option ℕ). option_map_or (λ seam. seam) o k) (seamed k ∙ ap (λ c. cond c (Some least) None) is)

        reached : (least ≡ k) ⊎ (W least (Some k) ≡ true) → W least (Some k) ≡ true
        reached (inl same) = subst (λ (m : ℕ). W m (Some k) ≡ true) (sym same) (self_w k x)
        reached (inr on) = on

        by : (b : Bool) → W k (up_at (ups_of f) k) ≡ b → IsShared k (shared_at seams k)
        by true is =
            let on : W least (Some k) ≡ true = reached (least_or (length (ups_of f)) (ups_of f) (Some k) k) in
            let there : At f least = on_walk (length (ups_of f)) k least x on in
            subst (IsShared k) (sym (told true is)) (record {
              at = there;
              to = on;
              from = turn k least x there is on;
              ring = λ _ y h. least_passed (length (ups_of f)) (ups_of f) (Some k) k y h;
              alone = λ out. absurd (true≢false (sym is ∙ out));
            })
        by false is = subst (IsShared k) (sym (told false is)) (record {
          at = x;
          to = self_w k x;
          from = self_w k x;
          ring = λ in_it. absurd (true≢false (sym in_it ∙ is));
          alone = λ _. refl;
        })

    -- it is there
    pub shared_there : (k : ℕ) → At f k → At f (shared_at seams k)
    shared_there k x = (shared k x).at

    -- where a ring is cut open
    cut_open : (q : ℕ) → is_seam seams q ≡ true → (W q (up_at (ups_of f) q) ≡ true) × ((x : ℕ) → W x (Some q) ≡ true → q ≤ x)
    cut_open q h = by (W q (up_at (ups_of f) q)) refl (sym (ap (λ (o : Option ℕ). option_map_or (λ seam. eqb seam q) o false) (seamed q)) ∙ h)
      where
        least : ℕ
        least = least_on (length (ups_of f)) (ups_of f) (Some q) q

        by : (b : Bool) → W q (up_at (ups_of f) q) ≡ b → option_map_or (λ seam. eqb seam q) (cond (W q (up_at (ups_of f) q)) (Some least) None) false ≡ true → (W q (up_at (ups_of f) q) ≡ true) × ((x : ℕ) → W x (Some q) ≡ true → q ≤ x)
        by true is g =
            let same : least ≡ q = eqb-true least q (sym (ap (λ c. option_map_or (λ seam. eqb seam q) (cond c (Some least) None) false) is) ∙ g) in
            (is, λ x on. omega (arith, same, least_passed (length (ups_of f)) (ups_of f) (Some q) q x on))
        by false is g = absurd (true≢false (sym g ∙ ap (λ c. option_map_or (λ seam. eqb seam q) (cond c (Some least) None) false) is))

    -- a walk that comes to the place that has the sum of k passes no place before where a ring is cut open
    not_open : (k q : ℕ) → At f k → At f q → eqb q (shared_at seams k) ≡ false → W (shared_at seams k) (Some q) ≡ true → is_seam seams q ≡ false
    not_open k q x y out on = false_from_ne_true (is_seam seams q) (λ h.
        let s = shared_at seams k in
        let is = shared k x in
        let open_at = cut_open q h in
        let back_on : W q (Some s) ≡ true = turn q s y is.at open_at.0 on in
        let to_k : W k (Some q) ≡ true = joined q s k y is.at x on is.from in
        let ring : W k (up_at (ups_of f) k) ≡ true = ring_too q k y x open_at.0 to_k in
        let one : q ≡ s = omega (arith, open_at.1 s on, is.ring ring q (joined k s q x is.at y is.to back_on)) in
        true≢false (sym (eq-eqb q s one) ∙ out))

    -- a whole walk to it is not cut
    uncut : (k left q : ℕ) → At f k → At f q → left ≤ length (ups_of f) → walk_at (λ i. eqb i (shared_at seams k)) left (ups_of f) (Some q) ≡ true → walk_at (λ i. eqb i (shared_at seams k)) left cuts (Some q) ≡ true
    uncut k zero q x y fits h = absurd (true≢false (sym h))
    uncut k (suc left) q x y fits h = elim (eqb q (shared_at seams k)) as (λ b. eqb q (shared_at seams k) ≡ b → (b || walk_at (λ i. eqb i (shared_at seams k)) left (ups_of f) (up_at (ups_of f) q)) ≡ true → (b || walk_at (λ i. eqb i (shared_at seams k)) left cuts (up_at cuts q)) ≡ true) [
      | true ↦ λ _ _. refl
      | false ↦ λ out later.
          let same : up_at cuts q ≡ up_at (ups_of f) q = cut q ∙ ap (λ b. cond b None (up_at (ups_of f) q)) (not_open k q x y out (more_steps (λ i. eqb i (shared_at seams k)) (suc left) (length (ups_of f)) (ups_of f) (Some q) fits h)) in
          ap (walk_at (λ i. eqb i (shared_at seams k)) left cuts) same ∙ by (λ u is. uncut k left u x (named_up q u y is) (omega (arith, fits))) (up_at (ups_of f) q) refl later
    ] refl h
      where
        by : ((u : ℕ) → up_at (ups_of f) q ≡ Some u → walk_at (λ i. eqb i (shared_at seams k)) left (ups_of f) (Some u) ≡ true → walk_at (λ i. eqb i (shared_at seams k)) left cuts (Some u) ≡ true) → (o : Option ℕ) → up_at (ups_of f) q ≡ o → walk_at (λ i. eqb i (shared_at seams k)) left (ups_of f) o ≡ true → walk_at (λ i. eqb i (shared_at seams k)) left cuts o ≡ true
        by next None is g = absurd (true≢false (sym g ∙ walk_none (λ i. eqb i (shared_at seams k)) left (ups_of f)))
        by next (Some u) is g = next u is g

    -- a walk that is cut is the beginning of a whole one
    whole : (a left : ℕ) (at : Option ℕ) → walk_at (λ i. eqb i a) left cuts at ≡ true → walk_at (λ i. eqb i a) left (ups_of f) at ≡ true
    whole a zero at h = absurd (true≢false (sym h))
    whole a (suc left) None h = absurd (true≢false (sym h))
    whole a (suc left) (Some q) h = elim (eqb q a) as (λ b. (b || walk_at (λ i. eqb i a) left cuts (up_at cuts q)) ≡ true → (b || walk_at (λ i. eqb i a) left (ups_of f) (up_at (ups_of f) q)) ≡ true) [
      | true ↦ λ _. refl
      | false ↦ λ later. by (whole a left) (is_seam seams q) refl (sym (ap (walk_at (λ i. eqb i a) left cuts) (cut q)) ∙ later)
    ] h
      where
        by : ((o : Option ℕ) → walk_at (λ i. eqb i a) left cuts o ≡ true → walk_at (λ i. eqb i a) left (ups_of f) o ≡ true) → (b : Bool) → is_seam seams q ≡ b → walk_at (λ i. eqb i a) left cuts (cond (is_seam seams q) None (up_at (ups_of f) q)) ≡ true → walk_at (λ i. eqb i a) left (ups_of f) (up_at (ups_of f) q) ≡ true
        by on true is g = absurd (true≢false (sym g ∙ ap (λ b. walk_at (λ i. eqb i a) left cuts (cond b None (up_at (ups_of f) q))) is ∙ walk_none (λ i. eqb i a) left cuts))
        by on false is g = on (up_at (ups_of f) q) (sym (ap (λ b. walk_at (λ i. eqb i a) left cuts (cond b None (up_at (ups_of f) q))) is) ∙ g)

    -- a walk that is cut comes to the place that has the sum of k exactly where a whole one comes to k
    pub bridge : (q k : ℕ) → At f q → At f k → length cuts ≡ length (ups_of f) → reaches cuts q (shared_at seams k) ≡ reaches (ups_of f) q k
    bridge q k y x many =
        let s = shared_at seams k in
        let is = shared k x in
        ap (λ l. walk_at (λ i. eqb i s) l cuts (Some q)) many
        ∙ both (walk_at (λ i. eqb i s) (length (ups_of f)) cuts (Some q)) (W k (Some q))
        (λ h. joined q s k y is.at x (whole s (length (ups_of f)) (Some q) h) is.from)
        (λ h. uncut k (length (ups_of f)) q x y (omega arith) (joined q k s y x is.at h is.to))

-- ---- what is noted of a tree

pub seams_noted : (ups seams : List (Option ℕ)) → AreSeams ups seams → (k : ℕ) → up_at seams k ≡ seam_at ups k
seams_noted ups seams are = noted_at (seam_at ups) ups seams are (λ k none. ap (λ b. cond b (Some (least_on (length ups) ups (Some k) k)) None) (ap (walk_at (λ i. eqb i k) (length ups) ups) none ∙ walk_none (λ i. eqb i k) (length ups) ups))

pub cuts_noted : (ups seams cuts : List (Option ℕ)) → AreCuts ups seams cuts → (k : ℕ) → up_at cuts k ≡ cut_at ups seams k
cuts_noted ups seams cuts are = noted_at (cut_at ups seams) ups cuts are (λ k none. elim (is_seam seams k) as (λ b. cond b None (up_at ups k) ≡ None) [ true ↦ refl | false ↦ none ])
