-- What a worker's turns add to what a seat called.
--     IsTurn w calls        one take and, after a job, one finish or one drop
--     gets_on e             a turn gets on by this call
--     HasCalled calls old new      a seat made just these calls
--     HasTurned, HasWorked  a seat has made a turn;  so many
use Rattle.std.specs.Prelude.{◌≡◌, ℕ, Bool, false, ◌++◌, List, [], ◌∷◌, is_none, length}
use Rattle.std.specs.List.{AllByRecursion, list_any}
use mathlib.Core.List.{IsPrefix}
use Rattle.hx_core.specs.Turns.{loss_in}
use Rattle.hx_core.specs.declared.turns.Take.{Take}
use Rattle.hx_core.specs.declared.turns.Take.TheVariants as take
use Rattle.hx_shared.specs.Calls.{Log}
use Rattle.hx_shared.specs.Seats.{SeatView, Adds, HasTaken}
use Rattle.hx_shared.specs.declared.call.Call.{Call}
use Rattle.hx_shared.specs.declared.call.Call.TheVariants as call

-- ---- turns

-- a finish or a drop of the worker
abbrev pub IsEndCall : ℕ → Call → Type 0
IsEndCall w (call.Request ask answer) = ⊥
IsEndCall w (call.Take v taken) = ⊥
IsEndCall w (call.Finish v end) = v ≡ w
IsEndCall w (call.Drop v key) = v ≡ w
IsEndCall w (call.Busy waiting held) = ⊥

-- what stands behind a take: after a job one finish or one drop, and else nothing
abbrev pub IsRest : ℕ → Take → List Call → Type 0
IsRest w (take.Job brief) rest = (e : Call) × IsEndCall w e × (rest ≡ e ∷ [])
IsRest w take.Idle rest = rest ≡ []
IsRest w (take.Already brief) rest = rest ≡ []
IsRest w (take.Other holder) rest = rest ≡ []
IsRest w take.NoMemory rest = rest ≡ []

-- the calls of a turn
abbrev pub IsTurn : ℕ → List Call → Type 0
IsTurn w calls = (taken : Take) × (rest : List Call) × (calls ≡ call.Take w taken ∷ rest) × IsRest w taken rest

-- a turn gets on by this call: it finishes a key, and isn't lost
abbrev pub gets_on : Call → Bool
gets_on (call.Finish v end) = is_none (loss_in end)
gets_on _ = false

-- ---- seats

-- calls of one seat
abbrev pub signed : ℕ → List Call → Log
signed n [] = []
signed n (e ∷ es) = (n, e) ∷ signed n es

-- the seat made just these calls, and has seen more
pub record HasCalled (calls : List Call) (old new : SeatView) : Type 0 where
  pub mine : new.mine ≡ old.mine ++ signed old.number calls
  pub seen : IsPrefix old.seen new.seen
  pub number : new.number ≡ old.number
  pub opening : new.opening ≡ old.opening
  pub rights : new.rights ≡ old.rights
  pub first : new.first ≡ old.first

-- it has made a turn, which got on or didn't
pub record HasTurned (w : ℕ) (on : Bool) (old new : SeatView) : Type 0 where
  pub calls : List Call
  pub is : IsTurn w calls
  pub got : list_any gets_on calls ≡ on
  pub called : HasCalled calls old new

-- all calls of some turns
abbrev pub all_of : List (List Call) → List Call
all_of [] = []
all_of (t ∷ ts) = t ++ all_of ts

-- it has made so many turns, of which one got on or none did, and called nothing else
pub record HasWorked (w made : ℕ) (on : Bool) (old new : SeatView) : Type 0 where
  pub turns : List (List Call)
  pub each : AllByRecursion (IsTurn w) turns
  pub many : length turns ≡ made
  pub got : list_any gets_on (all_of turns) ≡ on
  pub called : HasCalled (all_of turns) old new

-- ---- within a turn

-- a finish or a drop more, by which the turn got on or didn't
abbrev pub Ended : ℕ → Bool → SeatView → SeatView → Type 0
Ended w on old new = (e : Call) × IsEndCall w e × (gets_on e ≡ on) × Adds old e new

-- after a job a finish or a drop more, and else nothing
abbrev pub Ends : ℕ → Take → Bool → SeatView → SeatView → Type 0
Ends w (take.Job brief) on old new = Ended w on old new
Ends w take.Idle on old new = (on ≡ false) × (new ≡ old)
Ends w (take.Already brief) on old new = (on ≡ false) × (new ≡ old)
Ends w (take.Other holder) on old new = (on ≡ false) × (new ≡ old)
Ends w take.NoMemory on old new = (on ≡ false) × (new ≡ old)

-- what a job gave is taken
abbrev pub HasTakenIfJob : ℕ → Take → SeatView → Type 0
HasTakenIfJob w (take.Job brief) v = HasTaken v w brief
HasTakenIfJob w take.Idle v = Unit {0}
HasTakenIfJob w (take.Already brief) v = Unit {0}
HasTakenIfJob w (take.Other holder) v = Unit {0}
HasTakenIfJob w take.NoMemory v = Unit {0}
