-- Entries of which the first ones are in the order of a heap: none of these is less than its parent.
--     placed_cmp         the order of keys with their depths: by rank, copies by depth, and then by the order of keys
--     less R x y         x comes before y
--     Precedes           whether the item at a is less than that at b
--     IsHeap n           no item of the first n is less than its parent
--     IsHoled n j        they would be a heap, were the item at j taken out
--     IsLeastChild n     no child of j is less than the item at c
--     Rises n j          where only the item at j may be less than its parent, what comes of it is a heap
--     AreAll n           each of the first n passes a test
--     KeepsAll n, KeepsFewer n, KeepsRest n   what all of the first n pass, they pass still;  what they and the next one pass, they pass;  the others stay where they are
--     with_depth_at      the key at an index lies so deep
--     IsOut              the item at an index is taken out, and those before it stay where they are
--     Leaves             the item at an index is taken out, and of the first ones, in the order of a heap, so many are left
use Rattle.std.specs.Prelude.{◌≡◌, ◌≢◌, ℕ, ◌+◌, ◌*◌, ◌<◌, ◌≤◌, zero, suc, Bool, true, false, List, [], ◌∷◌, length, slice_get, slice_index_or, Some}
use Rattle.std.specs.List.Sorted.{IsPermutation}
use Rattle.std.specs.declared.cmp.Ordering.{Ordering}
use Rattle.std.specs.Ordering.{nat_cmp, ordering_then, is_lt}
use Rattle.hx_model.specs.declared.key.Key.{Key}
use Rattle.hx_model.specs.declared.key.Key.TheVariants as key
use Rattle.hx_order.specs.KeyOrder.{key_cmp}
use Rattle.hx_order.specs.Ranks.{rank_of}

-- how deep a key lies: of one that is no copy's it doesn't count
abbrev pub level_of : Key × ℕ → ℕ
level_of (key.Copy n kind name, depth) = depth
level_of _ = 0

abbrev pub placed_cmp : Key × ℕ → Key × ℕ → Ordering
placed_cmp a b = ordering_then (nat_cmp (rank_of a.0) (rank_of b.0)) (ordering_then (nat_cmp (level_of a) (level_of b)) (key_cmp a.0 b.0))

module _ {X : Type 0} (R : X → X → Ordering) where
  abbrev pub less : X → X → Bool
  less x y = is_lt (R x y)

  abbrev pub Precedes : List X → ℕ → ℕ → Bool → Type 0
  Precedes xs a b r = (d : X) → less (slice_index_or xs a d) (slice_index_or xs b d) ≡ r

  unfoldable pub IsHeap : ℕ → List X → Type 0
  IsHeap n xs = (p k : ℕ) (d : X) → p * 2 + 1 ≤ k → k ≤ p * 2 + 2 → k < n → less (slice_index_or xs k d) (slice_index_or xs p d) ≡ false

  -- no child of j is less than the item at c
  abbrev pub IsLeastChild : ℕ → List X → ℕ → ℕ → Type 0
  IsLeastChild n xs j c = (k : ℕ) (d : X) → j * 2 + 1 ≤ k → k ≤ j * 2 + 2 → k < n → less (slice_index_or xs k d) (slice_index_or xs c d) ≡ false

  -- they would be a heap, were the item at j taken out
  unfoldable pub IsHoled : ℕ → List X → ℕ → Type 0
  IsHoled n xs j =
      ((p k : ℕ) (d : X) → p * 2 + 1 ≤ k → k ≤ p * 2 + 2 → k < n → (p ≢ j) → (k ≢ j) → less (slice_index_or xs k d) (slice_index_or xs p d) ≡ false)
      × ((p k : ℕ) (d : X) → p * 2 + 1 ≤ j → j ≤ p * 2 + 2 → j * 2 + 1 ≤ k → k ≤ j * 2 + 2 → k < n → less (slice_index_or xs k d) (slice_index_or xs p d) ≡ false)

  -- where only the item at j may be less than its parent, ys is a heap
  unfoldable pub Rises : ℕ → List X → ℕ → List X → Type 0
  Rises n xs j ys = IsHoled n xs j × IsLeastChild n xs j j → IsHeap n ys

-- the key at an index lies so deep
abbrev pub with_depth_at : List (Key × ℕ) → ℕ → ℕ → List (Key × ℕ)
with_depth_at [] i depth = []
with_depth_at (e ∷ es) zero depth = (e.0, depth) ∷ es
with_depth_at (e ∷ es) (suc i) depth = e ∷ with_depth_at es i depth

-- ---- what stays

module _ {X : Type 0} where
  -- each of the first n passes a test
  abbrev pub AreAll : ℕ → (X → Bool) → List X → Type 0
  AreAll n test xs = (i : ℕ) (d : X) → i < n → i < length xs → test (slice_index_or xs i d) ≡ true

  -- what all of the first n pass, they pass still
  unfoldable pub KeepsAll : ℕ → List X → List X → Type 0
  KeepsAll n xs ys = (test : X → Bool) → AreAll n test xs → AreAll n test ys

  -- what all of the first n and the next one pass, the first n pass then
  unfoldable pub KeepsFewer : ℕ → List X → List X → Type 0
  KeepsFewer n xs ys = (test : X → Bool) → AreAll (n + 1) test xs → AreAll n test ys

  -- the others stay where they are
  unfoldable pub KeepsRest : ℕ → List X → List X → Type 0
  KeepsRest n xs ys = (i : ℕ) (d : X) → n ≤ i → slice_index_or ys i d ≡ slice_index_or xs i d

-- the item at an index is taken out, and those before it stay where they are
pub record IsOut {X : Type 0} (at : ℕ) (old new : List X) : Type 0 where
  pub long : length new + 1 ≡ length old
  pub out : (x : X) → slice_get old at ≡ Some x → IsPermutation old (x ∷ new)
  pub same : (i : ℕ) (d : X) → i < at → slice_index_or new i d ≡ slice_index_or old i d

-- the entry at an index is taken out, and of the first ones so many are left
pub record Leaves (ordered at : ℕ) (old new : List (Key × ℕ)) (left : ℕ) : Type 0 where
  pub long : length new + 1 ≡ length old
  pub out : (x : Key × ℕ) → slice_get old at ≡ Some x → IsPermutation old (x ∷ new)
  pub within : left ≤ length new
  pub heap : IsHeap placed_cmp left new
  pub kept : (test : Key × ℕ → Bool) → AreAll ordered test old → AreAll left test new
