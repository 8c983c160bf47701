-- What the steps keep that move an entry up or down among the first ones, which are in the order of a heap.
--     swapped          the items after an exchange
--     rise_steps       an item that is less than its parent moves up
--     rise_tops, rise_rests    it is at the top;  it isn't less
--     sinks_on         the hole moves down
--     top              the first item is the least
--     pushed           an item is put behind a heap
--     holed            the last item takes the place of another one
--     keeps_all, keeps_rest    what an exchange leaves
use Rattle.std.proofs.Common.{◌≡◌, ◌≤◌, ◌<◌, ◌+◌, ◌-◌, ◌*◌, ◌/◌, ◌⊎◌, inl, inr, ℕ, zero, suc, Bool, true, false, List, [], ◌∷◌, length, refl, sym, ap, ◌∙◌, arith}
use Rattle.std.specs.declared.cmp.Ordering.{Ordering}
use Rattle.std.specs.Cmp.{IsTotalOrder, IsStrictWeakOrder}
use Rattle.std.specs.List.{swap}
use Rattle.std.proofs.Math.ListN.{get_or, set}
use Rattle.std.proofs.lemmas.Bool.{cases_eq}
use Rattle.std.proofs.lemmas.List.{get_or-set_same, get_or-set_other, length-set}
use Rattle.std.proofs.lemmas.List.Edits.{swap_is}
use Rattle.std.proofs.lemmas.List.MinMax.{ranks_by}
use Rattle.hx_line.specs.Heap.{less, Precedes, IsHeap, IsLeastChild, IsHoled, Rises, AreAll, KeepsAll, KeepsFewer, KeepsRest}

pub cases : {A B C : Type 0} → A ⊎ B → (A → C) → (B → C) → C
cases (inl a) f g = f a
cases (inr b) f g = g b

-- the items at a and b in each other's place
abbrev pub Exchanged : {X : Type 0} → List X → List X → ℕ → ℕ → X → Type 0
Exchanged xs ys a b d = (get_or ys a d ≡ get_or xs b d) × (get_or ys b d ≡ get_or xs a d) × ((m : ℕ) → (m ≡ a → ⊥) → (m ≡ b → ⊥) → get_or ys m d ≡ get_or xs m d)

pub swapped : {X : Type 0} (xs ys : List X) (a b : ℕ) (d : X) → a < length xs → b < length xs → ys ≡ swap xs a b → Exchanged xs ys a b d
swapped {X} xs ys a b d p q e =
    let w = set xs a (get_or xs b d) in
    let is : (m : ℕ) → get_or ys m d ≡ get_or (set w b (get_or xs a d)) m d = λ m. ap (λ (l : List X). get_or l m d) (e ∙ sym (swap_is xs a b d p q)) in
    let last : get_or ys b d ≡ get_or xs a d = is b ∙ get_or-set_same w b (get_or xs a d) d (omega (arith, length-set xs a (get_or xs b d))) in (
      cases (cases_eq a b)
          (λ k. ap (λ (m : ℕ). get_or ys m d) k ∙ last ∙ ap (λ (m : ℕ). get_or xs m d) k)
          (λ k. is a ∙ get_or-set_other w b a (get_or xs a d) d k ∙ get_or-set_same xs a (get_or xs b d) d p),
      last,
      λ m h k. is m ∙ get_or-set_other w b m (get_or xs a d) d k ∙ get_or-set_other xs a m (get_or xs b d) d h,
    )

pub as_long : {X : Type 0} (xs : List X) (a b : ℕ) → length (swap xs a b) ≡ length xs
as_long [] a b = refl
as_long (x ∷ xs) a b = length-set (set (x ∷ xs) a (get_or (x ∷ xs) b x)) b (get_or (x ∷ xs) a x) ∙ length-set (x ∷ xs) a (get_or (x ∷ xs) b x)

-- ---- what stays

module _ {X : Type 0} where
  pub keeps_all_itself : (n : ℕ) (xs : List X) → KeepsAll n xs xs
  unfolding KeepsAll
  keeps_all_itself n xs = λ test h. h

  pub keeps_all-trans : (n : ℕ) (xs ys zs : List X) → KeepsAll n xs ys → KeepsAll n ys zs → KeepsAll n xs zs
  unfolding KeepsAll
  keeps_all-trans n xs ys zs p q = λ test h. q test (p test h)

  pub keeps_rest_itself : (n : ℕ) (xs : List X) → KeepsRest n xs xs
  unfolding KeepsRest
  keeps_rest_itself n xs = λ i d le. refl

  pub keeps_rest-trans : (n m : ℕ) (xs ys zs : List X) → m ≤ n → KeepsRest n xs ys → KeepsRest m ys zs → KeepsRest n xs zs
  unfolding KeepsRest
  keeps_rest-trans n m xs ys zs less p q = λ i d le. q i d (omega arith) ∙ p i d le

  swap_all : (n : ℕ) (xs ys : List X) (a b : ℕ) → a < n → b < n → a < length xs → b < length xs → ys ≡ swap xs a b → (test : X → Bool) → AreAll n test xs → AreAll n test ys
  swap_all n xs ys a b an bn al bl is test h =
      let long : length ys ≡ length xs = ap length is ∙ as_long xs a b in
      λ i d f g. let s = swapped xs ys a b d al bl is in cases (cases_eq i a)
      (λ e. ap test (ap (λ m. get_or ys m d) e ∙ s.0) ∙ h b d bn bl)
      (λ u. cases (cases_eq i b)
      (λ e. ap test (ap (λ m. get_or ys m d) e ∙ s.1) ∙ h a d an al)
      (λ v. ap test (s.2 i u v) ∙ h i d f (omega (arith, long, g))))

  -- an exchange among the first ones
  pub keeps_all : (n : ℕ) (xs ys : List X) (a b : ℕ) → a < n → b < n → a < length xs → b < length xs → ys ≡ swap xs a b → KeepsAll n xs ys
  unfolding KeepsAll
  keeps_all n xs ys a b an bn al bl is = λ test h. swap_all n xs ys a b an bn al bl is test h

  pub keeps_rest : (n : ℕ) (xs ys : List X) (a b : ℕ) → a < n → b < n → a < length xs → b < length xs → ys ≡ swap xs a b → KeepsRest n xs ys
  unfolding KeepsRest
  keeps_rest n xs ys a b an bn al bl is = λ i d le. let s = swapped xs ys a b d al bl is in s.2 i (omega (arith, an, le)) (omega (arith, bn, le))

  -- one of the first ones goes behind them
  pub keeps_fewer : (n : ℕ) (xs ys zs : List X) (a : ℕ) → a < n → n < length xs → ys ≡ swap xs a n → KeepsAll n ys zs → KeepsFewer n xs zs
  unfolding KeepsAll KeepsFewer
  keeps_fewer n xs ys zs a an nl is kept = λ test h. kept test (λ i d f g. swap_all (n + 1) xs ys a n (omega arith) (omega arith) (omega arith) nl is test h i d (omega arith) g)

  pub keeps_fewer_itself : (n : ℕ) (xs : List X) → KeepsFewer n xs xs
  unfolding KeepsFewer
  keeps_fewer_itself n xs = λ test h i d f g. h i d (omega arith) g

module _ {X : Type 0} (R : X → X → Ordering) where
  by : (a b x y : X) → a ≡ x → b ≡ y → less R y x ≡ false → less R b a ≡ false
  by a b x y p q h = (λ k. less R (q k) (p k)) ∙ h

  closes : (n : ℕ) (xs : List X) (j : ℕ) → ((p : ℕ) (d : X) → p * 2 + 1 ≤ j → j ≤ p * 2 + 2 → less R (get_or xs j d) (get_or xs p d) ≡ false) → IsHoled R n xs j → IsLeastChild R n xs j j → IsHeap R n xs
  unfolding IsHoled IsHeap
  closes n xs j over h least = λ p k d a b f. cases (cases_eq p j)
      (λ e. by _ _ _ _ (ap (λ m. get_or xs m d) e) refl (least k d (omega arith) (omega arith) f))
      (λ u. cases (cases_eq k j)
      (λ e. by _ _ _ _ refl (ap (λ m. get_or xs m d) e) (over p d (omega arith) (omega arith)))
      (λ v. h.0 p k d a b f u v))

  -- ---- down

  pub sinks_on : (n : ℕ) (xs ys : List X) (j c : ℕ) → j * 2 + 1 ≤ c → c ≤ j * 2 + 2 → c < n → n ≤ length xs → ys ≡ swap xs j c → IsLeastChild R n xs j c → IsHoled R n xs j → IsHoled R n ys c
  unfolding IsHoled
  sinks_on n xs ys j c from to in' within is best h = (
    λ p k d a b f u v. let s = swapped xs ys j c d (omega arith) (omega arith) is in cases (cases_eq p j)
        (λ e. by _ _ _ _ (ap (λ m. get_or ys m d) e ∙ s.0) (s.2 k (omega arith) v) (best k d (omega arith) (omega arith) (omega arith)))
        (λ w. cases (cases_eq k j)
        (λ e. by _ _ _ _ (s.2 p w u) (ap (λ m. get_or ys m d) e ∙ s.0) (h.1 p c d (omega arith) (omega arith) from to in'))
        (λ z. by _ _ _ _ (s.2 p w u) (s.2 k z v) (h.0 p k d a b (omega arith) w z))),
    λ p k d a b f g i.
        let s = swapped xs ys j c d (omega arith) (omega arith) is in
        let e : p ≡ j = omega arith in
        by _ _ _ _ (ap (λ m. get_or ys m d) e ∙ s.0) (s.2 k (omega arith) (omega arith)) (h.0 c k d f g (omega arith) (omega arith) (omega arith)),
  )

  -- a leaf has no children
  pub leaf_least : (n : ℕ) (xs : List X) (j : ℕ) → n ≤ 2 * j + 1 → IsLeastChild R n xs j j
  leaf_least n xs j le = λ k d a b f. absurd (omega arith)

  module _ (o : IsTotalOrder R) where
    ranks : IsStrictWeakOrder (less R)
    ranks = ranks_by o (λ (x : X). x)

    -- less y x is false, and less z y, so less z x is
    chain : (x y z : X) → less R y x ≡ false → less R z y ≡ false → less R z x ≡ false
    chain x y z p q = ranks.chain z y x q p

    never : (x : X) (b : Bool) → less R x x ≡ b → less R x x ≡ false
    never x true e = ranks.one_way x x e
    never x false e = e

    itself : (xs : List X) (j k : ℕ) (d : X) → k ≡ j → less R (get_or xs k d) (get_or xs j d) ≡ false
    itself xs j k d e = by _ _ _ _ refl (ap (λ m. get_or xs m d) e) (never (get_or xs j d) _ refl)

    -- ---- which child

    pub only_child : (n : ℕ) (xs : List X) (j c : ℕ) → c ≡ j * 2 + 1 → n ≤ c + 1 → IsLeastChild R n xs j c
    only_child n xs j c e l = λ k d a b f. itself xs c k d (omega arith)

    pub left_child : (n : ℕ) (xs : List X) (j c : ℕ) → c ≡ j * 2 + 1 → Precedes R xs (c + 1) c false → IsLeastChild R n xs j c
    left_child n xs j c e t = λ k d a b f. cases (cases_eq k c) (itself xs c k d)
        (λ u. let p : k ≡ c + 1 = omega arith in by _ _ _ _ refl (ap (λ m. get_or xs m d) p) (t d))

    pub right_child : (n : ℕ) (xs : List X) (j c : ℕ) → c ≡ j * 2 + 1 → Precedes R xs (c + 1) c true → IsLeastChild R n xs j (c + 1)
    right_child n xs j c e t = λ k d a b f. cases (cases_eq k (c + 1)) (itself xs (c + 1) k d)
        (λ u. let p : k ≡ c = omega arith in by _ _ _ _ refl (ap (λ m. get_or xs m d) p) (ranks.one_way _ _ (t d)))

    -- ---- up

    -- the item that began at i in xs is at j in ys
    pub Rising : ℕ → List X → ℕ → List X → ℕ → Type 0
    Rising n xs i ys j = IsHoled R n xs i × IsLeastChild R n xs i i → IsHoled R n ys j × IsLeastChild R n ys j j

    pub rise_begins : (n : ℕ) (xs : List X) (j : ℕ) → Rising n xs j xs j
    unfolding Rising
    rise_begins n xs j = λ h. h

    up : (n : ℕ) (xs ys : List X) (j c : ℕ) → j * 2 + 1 ≤ c → c ≤ j * 2 + 2 → c < n → c < length xs → ys ≡ swap xs j c → ((d : X) → less R (get_or xs c d) (get_or xs j d) ≡ true) → IsHoled R n xs c → IsHoled R n ys j × IsLeastChild R n ys j j
    unfolding IsHoled
    up n xs ys j c from to below in' is t h = (
      (
        λ p k d a b f u v. let s = swapped xs ys j c d (omega arith) in' is in cases (cases_eq p c)
            (λ e. by _ _ _ _ (ap (λ m. get_or ys m d) e ∙ s.1) (s.2 k v (omega arith)) (h.1 j k d from to (omega arith) (omega arith) (omega arith)))
            (λ w. let z : k ≡ c → ⊥ = omega arith in by _ _ _ _ (s.2 p u w) (s.2 k v z) (h.0 p k d a b (omega arith) w z)),
        λ p k d a b f g i.
            let s = swapped xs ys j c d (omega arith) in' is in
            let over = h.0 p j d a b (omega arith) (omega arith) (omega arith) in
            let same = s.2 p (omega arith) (omega arith) in
            cases (cases_eq k c)
            (λ e. by _ _ _ _ same (ap (λ m. get_or ys m d) e ∙ s.1) over)
            (λ w. by _ _ _ _ same (s.2 k (omega arith) w) (chain _ _ _ over (h.0 j k d f g (omega arith) (omega arith) w))),
      ),
      λ k d a b f. let s = swapped xs ys j c d (omega arith) in' is in cases (cases_eq k c)
          (λ e. by _ _ _ _ s.0 (ap (λ m. get_or ys m d) e ∙ s.1) (ranks.one_way _ _ (t d)))
          (λ w. by _ _ _ _ s.0 (s.2 k (omega arith) w) (chain _ _ _ (ranks.one_way _ _ (t d)) (h.0 j k d a b (omega arith) (omega arith) w))),
    )

    pub rise_steps : (n : ℕ) (xs ys zs : List X) (i j : ℕ) → 0 < j → j < n → j < length ys → zs ≡ swap ys ((j - 1) / 2) j → Precedes R ys j ((j - 1) / 2) true → Rising n xs i ys j → Rising n xs i zs ((j - 1) / 2)
    unfolding Rising
    rise_steps n xs ys zs i j z below long e t was = λ h. up n ys zs ((j - 1) / 2) j (omega arith) (omega arith) below long e t (was h).0

    pub rise_tops : (n : ℕ) (xs ys : List X) (i j : ℕ) → j ≡ 0 → Rising n xs i ys j → Rises R n xs i ys
    unfolding Rising Rises
    rise_tops n xs ys i j z was = λ h. closes n ys j (λ k d a b. absurd (omega arith)) (was h).0 (was h).1

    pub rise_rests : (n : ℕ) (xs ys : List X) (i j : ℕ) → Precedes R ys j ((j - 1) / 2) false → Rising n xs i ys j → Rises R n xs i ys
    unfolding Rising Rises
    rise_rests n xs ys i j t was = λ h. closes n ys j
        (λ k d a b. let e : k ≡ (j - 1) / 2 = omega arith in by _ _ _ _ (ap (λ m. get_or ys m d) e) refl (t d)) (was h).0 (was h).1

    -- ---- the whole

    top_upto : (n : ℕ) (xs : List X) (d : X) → IsHeap R n xs → (fuel k : ℕ) → k ≤ fuel → k < n → less R (get_or xs k d) (get_or xs 0 d) ≡ false
    unfolding IsHeap
    top_upto n xs d h zero k a b = itself xs 0 k d (omega arith)
    top_upto n xs d h (suc fuel) k a b = cases (cases_eq k 0) (itself xs 0 k d)
        (λ u. chain _ _ _ (top_upto n xs d h fuel ((k - 1) / 2) (omega arith) (omega arith)) (h ((k - 1) / 2) k d (omega arith) (omega arith) b))

    -- none of the first ones is less than the very first
    pub top : (n : ℕ) (xs : List X) (d : X) → IsHeap R n xs → (k : ℕ) → k < n → less R (get_or xs k d) (get_or xs 0 d) ≡ false
    top n xs d h k b = top_upto n xs d h k k (omega arith) b

    -- the last one takes the place of another one
    holed : (n : ℕ) (xs ys : List X) (i : ℕ) → i < n → ((k : ℕ) (d : X) → k < n → (k ≡ i → ⊥) → get_or ys k d ≡ get_or xs k d) → IsHeap R (n + 1) xs → IsHoled R n ys i
    unfolding IsHeap IsHoled
    holed n xs ys i in' same h = (
      λ p k d a b f u v. by _ _ _ _ (same p d (omega arith) u) (same k d f v) (h p k d a b (omega arith)),
      λ p k d a b f g e. by _ _ _ _ (same p d (omega arith) (omega arith)) (same k d e (omega arith)) (chain _ _ _ (h p i d a b (omega arith)) (h i k d f g (omega arith))),
    )

    pub unplaced : (n : ℕ) (xs ys : List X) (i : ℕ) → i < n → n < length xs → ys ≡ swap xs i n → IsHeap R (n + 1) xs → IsHoled R n ys i
    unplaced n xs ys i in' long is h = holed n xs ys i in' (λ k d f u. let s = swapped xs ys i n d (omega arith) long is in s.2 k u (omega arith)) h

    -- an item behind a heap
    pub pushed : (n : ℕ) (xs ys : List X) → ((k : ℕ) (d : X) → k < n → get_or ys k d ≡ get_or xs k d) → IsHeap R n xs → IsHoled R (n + 1) ys n × IsLeastChild R (n + 1) ys n n
    unfolding IsHeap IsHoled
    pushed n xs ys same h = (
      (
        λ p k d a b f u v. by _ _ _ _ (same p d (omega arith)) (same k d (omega arith)) (h p k d a b (omega arith)),
        λ p k d a b f g e. absurd (omega arith),
      ),
      λ k d a b f. absurd (omega arith),
    )

    -- fewer of a heap
    pub fewer : (n m : ℕ) (xs ys : List X) → m ≤ n → ((k : ℕ) (d : X) → k < m → get_or ys k d ≡ get_or xs k d) → IsHeap R n xs → IsHeap R m ys
    unfolding IsHeap
    fewer n m xs ys le same h = λ p k d a b f. by _ _ _ _ (same p d (omega arith)) (same k d f) (h p k d a b (omega arith))

    pub none_placed : (xs : List X) → IsHeap R 0 xs
    unfolding IsHeap
    none_placed xs = λ p k d a b f. absurd (omega arith)
