-- A door that is served by several sessions, with workers beside them.
--     IsAt                   a pass is of this lock, and outside
--     HasGone                a pass has seen more
--     HasStayed              a seat has, and what it has seen stays legal
--     HaveGone               a seat and a pass have
--     HasLent, HasMet        a pass has lent one right;  it has it back
--     HasLed                 a door did what a history tells
--     IsServedOut            a door was asked until no link more came
--     EndsServing            as many links were handed out as were wanted, or the door is closed
use Rattle.std.specs.Prelude.{◌≡◌, ◌≤◌, ◌⊎◌, ◌+◌, ℕ, Bool, false, true, Option, Ok, Err}
use Rattle.std.specs.declared.result.Result.{Result}
use mathlib.Core.List.{IsPrefix}
use Rattle.atomic_table.specs.Seated.{TableId}
use Rattle.atomic_table.specs.Table.{Me}
use Rattle.hx_door.specs.Doors.{DoorView}
use Rattle.hx_door.specs.declared.door.DoorFault.{DoorFault}
use Rattle.hx_shared.specs.Seats.{HasHistory, SeatView}
use Rattle.hx_turn.specs.Passes.{IsOutside}
use Rattle.hx_turn.specs.declared.view.View.{View}
use Rattle.hx_sessions.specs.Held.{DoorLog, DoorPassView, EndsBy, HaveLed, HeldView, ends_in, held_at}

-- ---- passes

module _ {E O : Type 0} where
  -- it is of this lock, and outside
  abbrev pub IsAt : {T : Type 0} → TableId → TableId → Me (Option T) (View E O) → Type 0
  IsAt lock table me = (table ≡ lock) × IsOutside me

-- It has seen more. Its rights, its number, what the lock opened with, and whether it is the first stay
pub record HasGone {E O : Type 0} (old new : View E O) : Type 0 where
  pub seen : IsPrefix old.seen new.seen
  pub rights : new.rights ≡ old.rights
  pub number : new.number ≡ old.number
  pub opening : new.opening ≡ old.opening
  pub first : new.first ≡ old.first

-- It has lent one right. All else that callers see stays
pub record HasLent {E O : Type 0} (old new : View E O) : Type 0 where
  pub seen : new.seen ≡ old.seen
  pub rights : new.rights + 1 ≡ old.rights
  pub number : new.number ≡ old.number
  pub opening : new.opening ≡ old.opening
  pub first : new.first ≡ old.first

-- It has seen more, and has one right more: it met one that was lent
pub record HasMet {E O : Type 0} (old new : View E O) : Type 0 where
  pub seen : IsPrefix old.seen new.seen
  pub rights : new.rights ≡ old.rights + 1
  pub number : new.number ≡ old.number
  pub opening : new.opening ≡ old.opening
  pub first : new.first ≡ old.first

-- a seat has seen more, and what it has seen stays legal
abbrev pub HasStayed : SeatView → SeatView → Type 0
HasStayed old new = HasGone old new × (HasHistory old → HasHistory new)

-- a seat and a pass have seen more
abbrev pub HaveGone : SeatView → SeatView → DoorPassView → DoorPassView → Type 0
HaveGone old new before after = HasStayed old new × HasGone before after

-- ---- the door

-- A door that is held did what a history tells. It goes on, or its history tells that no link more comes
pub record HasLed (goes_on : Bool) (old new : HeldView) : Type 0 where
  pub log : DoorLog
  pub led : HaveLed old log new
  pub over : goes_on ≡ false → ends_in log ≡ true

-- The door was asked by sessions until one was told that no link more comes. It is what that history leaves, and the answer says how many links were handed out, or that it failed
pub record IsServedOut (links : ℕ) (old : DoorView) (end : Result ℕ DoorFault) (new : DoorView) : Type 0 where
  pub log : DoorLog
  pub last : HeldView
  pub led : HaveLed (held_at old links) log last
  pub over : ends_in log ≡ true
  pub door : new ≡ last.door
  pub ends : EndsBy last end

-- as many links were handed out as were wanted, or fewer and the door is closed
abbrev pub EndsServing : ℕ → Result ℕ DoorFault → DoorView → Type 0
EndsServing links (Ok count) new = (count ≡ links) ⊎ ((count ≤ links) × (new.closed ≡ true))
EndsServing links (Err fault) new = Unit {0}
