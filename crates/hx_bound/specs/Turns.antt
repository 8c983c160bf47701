-- That the writes of keys come to an end.
--     IsNext s k        a key wants a write, and none that wants one precedes it
--     IsLedger s done   the keys that were written since removals and subnamespaces want nothing
--     LedgersGrow       one that is written next joins them
--     left_turns        how many turns are left at most
--     TurnsSpend        a turn that writes nothing takes one of them, and one that writes takes one at least
--     StaysWithin       what is left at the start is below the bound
use Rattle.std.specs.Prelude.{◌≡◌, ◌≢◌, ◌≤◌, ◌<◌, ◌+◌, ◌*◌, ℕ, false, List, ◌∷◌, None}
use Rattle.std.specs.List.{AllByRecursion, IsDistinct}
use Rattle.hx_model.specs.Keys.{same_key}
use Rattle.hx_model.specs.State.{State}
use Rattle.hx_model.specs.Tree.{forest_of}
use Rattle.hx_model.specs.Wanted.{wanted_write}
use Rattle.hx_model.specs.declared.key.Key.{Key}
use Rattle.hx_order.specs.Ranks.{precedes}
use Rattle.hx_bound.specs.Rank.{KeepsOrder}

-- a key wants a write, and none that wants one precedes it
abbrev pub IsNext : State → Key → Type 0
IsNext s k = (wanted_write s k ≢ None) × ((j : Key) → wanted_write s j ≢ None → precedes (forest_of s) j k ≡ false)

-- the keys that were written since removals and subnamespaces want nothing: each once, none wants a write, and what wants one precedes none of them
pub record IsLedger (s : State) (done : List Key) : Type 0 where
  pub apart : IsDistinct same_key done
  pub quiet : AllByRecursion (λ j. wanted_write s j ≡ None) done
  pub first : AllByRecursion (λ j. (k : Key) → wanted_write s k ≢ None → precedes (forest_of s) k j ≡ false) done

-- where the next key is written and the order stays, it is one more
abbrev pub LedgersGrow : Type 0
LedgersGrow = (s t : State) (k : Key) (done : List Key) → IsNext s k → KeepsOrder s t k → IsLedger s done → IsLedger t (k ∷ done)

-- ---- turns

-- where so many writes are left, at most so many keys wait at any time, and so many do now
abbrev pub left_turns : ℕ → ℕ → ℕ → ℕ
left_turns writes most waiting = writes * (most + 1) + waiting

-- a turn takes a key that waits: it writes nothing, and one waits less, or one write is left less
pub record TurnsSpend : Type 0 where
  pub nothing : (writes most waiting now : ℕ) → now + 1 ≡ waiting → left_turns writes most now + 1 ≡ left_turns writes most waiting
  pub write : (writes fewer most waiting now : ℕ) → fewer < writes → 0 < waiting → now ≤ most → left_turns fewer most now < left_turns writes most waiting

-- so many things are left to do, there are so many keys, and so many wait
abbrev pub StaysWithin : Type 0
StaysWithin = (left keys waiting : ℕ) → left_turns (left + keys) (keys + waiting) waiting < (left + keys + 1) * (keys + waiting + 1)
