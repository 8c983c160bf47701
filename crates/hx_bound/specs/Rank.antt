-- In which order keys are written.
--     IsByLevel         a test tells of each two whether one is on a lower level than the other
--     KeysAreRanked     so does this one of keys
--     is_early k        a key of a removal or a subnamespace
--     IsCalm s          none of these wants a write
--     KeepsOrder s t k  from one state to the other the order stays, k wants nothing any more, and nothing begins to want a write that doesn't come behind k
use Rattle.std.specs.Prelude.{◌≡◌, ◌≢◌, ◌⊎◌, Bool, true, false, nat_lt, None}
use Rattle.hx_model.specs.Forest.{Forest}
use Rattle.hx_model.specs.State.{State}
use Rattle.hx_model.specs.Tree.{forest_of}
use Rattle.hx_model.specs.Wanted.{wanted_write}
use Rattle.hx_model.specs.declared.key.Key.{Key}
use Rattle.hx_order.specs.Ranks.{rank_of, precedes}

-- nothing comes before itself, what comes before another comes before all behind that one, and so does what doesn't come before
pub record IsByLevel (before : Key → Key → Bool) : Type 0 where
  pub itself : (a : Key) → before a a ≡ false
  pub chained : (a b c : Key) → before a b ≡ true → before b c ≡ true → before a c ≡ true
  pub between : (a b c : Key) → before a b ≡ false → before b c ≡ false → before a c ≡ false

-- keys stand on levels, whatever the tree
abbrev pub KeysAreRanked : Type 0
KeysAreRanked = (f : Forest) → IsByLevel (precedes f)

-- ---- what a write keeps

-- of a removal or a subnamespace
abbrev pub is_early : Key → Bool
is_early k = nat_lt (rank_of k) 2

-- no such key wants a write
abbrev pub IsCalm : State → Type 0
IsCalm s = (k : Key) → is_early k ≡ true → wanted_write s k ≡ None

-- what wants a write after it wanted one before or comes behind k, and k itself wants none
pub record KeepsOrder (s t : State) (k : Key) : Type 0 where
  pub calm : IsCalm t
  pub order : (a b : Key) → precedes (forest_of t) a b ≡ precedes (forest_of s) a b
  pub done : wanted_write t k ≡ None
  pub begins : (j : Key) → wanted_write t j ≢ None → (wanted_write s j ≢ None) ⊎ (precedes (forest_of s) k j ≡ true)
