-- In which order keys get their turns.
--     rank_of           removals, subnamespaces, tree labels, copies, reports, statuses of anchors, usage
--     depth_in f k      how deep the namespace of a copy lies
--     precedes f a b    a key comes before another: by rank, and copies by the depth of their namespaces
--     turn_cmp f a b    the order of turns: by rank, copies by depth, and then by the order of keys
--     AreInOrder        it is total, and only equal keys tie
--     IsFirst f keys k  the first of some keys
use Rattle.std.specs.Prelude.{◌≡◌, ℕ, Bool, true, false, ◌&&◌, ◌||◌, ◌==◌, nat_lt, List}
use Rattle.std.specs.Cmp.{IsTotalOrder}
use Rattle.std.specs.FinMap.{IsAntisymmetric}
use Rattle.std.specs.declared.cmp.Ordering.{Ordering}
use Rattle.std.specs.Ordering.{nat_cmp, ordering_then, is_lt}
use Rattle.hx_model.specs.Forest.{Forest, depth_of}
use Rattle.hx_model.specs.Keys.{is_among}
use Rattle.hx_model.specs.declared.key.Key.{Key}
use Rattle.hx_model.specs.declared.key.Key.TheVariants as key
use Rattle.hx_order.specs.KeyOrder.{key_cmp}

-- removals, subnamespaces, tree labels, copies, reports, statuses of anchors, usage
abbrev pub rank_of : Key → ℕ
rank_of (key.Purge n) = 0
rank_of (key.Child n m) = 1
rank_of (key.Tree n) = 2
rank_of (key.Copy n kind name) = 3
rank_of (key.Report n) = 4
rank_of (key.Anchor n m) = 5
rank_of (key.Used n name) = 6

-- how deep the namespace of a copy lies; for other keys it doesn't count
abbrev pub depth_in : Forest → Key → ℕ
depth_in f (key.Copy n kind name) = depth_of f n
depth_in f _ = 0

-- by rank, and copies by the depth of their namespaces
abbrev pub precedes : Forest → Key → Key → Bool
precedes f a b = nat_lt (rank_of a) (rank_of b) || ((rank_of a == rank_of b) && nat_lt (depth_in f a) (depth_in f b))

-- by rank, copies by the depth of their namespaces, and then by the order of keys
abbrev pub turn_cmp : Forest → Key → Key → Ordering
turn_cmp f a b = ordering_then (nat_cmp (rank_of a) (rank_of b)) (ordering_then (nat_cmp (depth_in f a) (depth_in f b)) (key_cmp a b))

abbrev pub AreInOrder : Type 0
AreInOrder = (f : Forest) → IsTotalOrder (turn_cmp f) × IsAntisymmetric (turn_cmp f)

-- a key of some, before which none of them gets its turn
pub record IsFirst (f : Forest) (keys : List Key) (k : Key) : Type 0 where
  pub there : is_among k keys ≡ true
  pub least : (j : Key) → is_among j keys ≡ true → is_lt (turn_cmp f j k) ≡ false
