-- Turns that settle, one behind the other: each takes the first of the keys that wait, and writes what it wants.
--     IsReady s waiting     each key that wants a write waits, and none waits twice
--     turn_of s k           the state after a turn of a key
--     IsTurn                a turn of a key, and the keys that wait behind it
--     AreTurns              turns from a state in which these keys wait: each key with those that wait behind its turn
--     SettlesWithin         they are fewer than the bound
--     TurnsGoOn             where a key waits, there is such a turn
use Rattle.std.specs.Prelude.{◌≡◌, ◌≢◌, ◌⊎◌, ◌<◌, ◌+◌, true, false, List, [], ◌∷◌, length, Some, None}
use Rattle.std.specs.List.{IsDistinct}
use Rattle.hx_model.specs.Hands.{writes_for}
use Rattle.hx_model.specs.Keys.{same_key, is_among, is_key_of_either}
use Rattle.hx_model.specs.State.{State, state_after}
use Rattle.hx_model.specs.Tree.{forest_of}
use Rattle.hx_model.specs.Wanted.{wanted_write}
use Rattle.hx_model.specs.declared.key.Key.{Key}
use Rattle.hx_model.specs.declared.key.Write.{Write}
use Rattle.hx_bound.specs.Bound.{Writes, turn_bound}
use Rattle.hx_order.specs.Ranks.{precedes}

-- each key that wants a write waits, and none waits twice
pub record IsReady (s : State) (waiting : List Key) : Type 0 where
  pub distinct : IsDistinct same_key waiting
  pub covered : (k : Key) → wanted_write s k ≢ None → is_among k waiting ≡ true

-- what the key wants is written, or nothing where it wants nothing
abbrev pub turn_of : State → Key → State
turn_of s k = state_after s (writes_for s (wanted_write s k))

-- a key that waits is taken, before which no other one stands. What waits behind the turn did before it, or is a key of one of the two states; where nothing was written that is one key less
pub record IsTurn (s : State) (waiting : List Key) (k : Key) (behind : List Key) : Type 0 where
  pub taken : is_among k waiting ≡ true
  pub first : (j : Key) → is_among j waiting ≡ true → precedes (forest_of s) j k ≡ false
  pub may : (write : Write) → wanted_write s k ≡ Some write → Writes s k write
  pub ready : IsReady (turn_of s k) behind
  pub kept : (j : Key) → is_among j behind ≡ true → (is_among j waiting ≡ true) ⊎ (is_key_of_either s (turn_of s k) j ≡ true)
  pub fewer : wanted_write s k ≡ None → length behind + 1 ≡ length waiting

-- one behind the other: each key with those that wait behind its turn
abbrev pub AreTurns : State → List Key → List (Key × List Key) → Type 0
AreTurns s waiting [] = Unit {0}
AreTurns s waiting (turn ∷ turns) = IsTurn s waiting turn.0 turn.1 × AreTurns (turn_of s turn.0) turn.1 turns

-- whatever else they mark, and whichever of the first keys they take
abbrev pub SettlesWithin : Type 0
SettlesWithin = (s : State) (waiting : List Key) (turns : List (Key × List Key)) → IsReady s waiting → AreTurns s waiting turns → length turns < turn_bound s (length waiting)

-- where a key waits, and what is wanted may be written, there is such a turn. So when none is left, no key waits
abbrev pub TurnsGoOn : Type 0
TurnsGoOn = (s : State) (waiting : List Key) → IsReady s waiting → waiting ≢ [] → ((k : Key) (write : Write) → wanted_write s k ≡ Some write → Writes s k write) → (k : Key) × (behind : List Key) × IsTurn s waiting k behind
