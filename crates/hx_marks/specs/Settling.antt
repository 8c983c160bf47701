-- Which keys of a state want a write, and when none does.
--     WantsNothing s        no key wants a write
--     IsSettledExactly      a valid state is settled where no key wants a write, and nowhere else
--     IsWantedOfState       a key that wants a write is a key of the state
use Rattle.std.specs.Prelude.{◌≡◌, ◌≢◌, true, None}
use Rattle.hx_model.specs.Keys.{is_key}
use Rattle.hx_model.specs.Settled.{IsSettled}
use Rattle.hx_model.specs.State.{State}
use Rattle.hx_model.specs.Valid.{IsValid}
use Rattle.hx_model.specs.Wanted.{wanted_write}
use Rattle.hx_model.specs.declared.key.Key.{Key}

-- no key wants a write, whether it is one of the state or not
abbrev pub WantsNothing : State → Type 0
WantsNothing s = (k : Key) → wanted_write s k ≡ None

-- each of the two says the other, of a state that a run may come to
abbrev pub IsSettledExactly : Type 0
IsSettledExactly = (s : State) → IsValid s → (IsSettled s → WantsNothing s) × (WantsNothing s → IsSettled s)

-- the keys of the state are all that there is to look at
abbrev pub IsWantedOfState : Type 0
IsWantedOfState = (s : State) (k : Key) → wanted_write s k ≢ None → is_key s k ≡ true
