-- What the parts of a settle leave.
--     IsTurn old result new          what a settle came to where it was to make a turn
--     IsWhole                        no turn was lost
--     IsTraced old before new after  a turn was made that wasn't lost, and the trace got it
--     EndsWithin, IsEnded            a settle ends before its turns are used up, with at most one turn more
--     IsRun old before new after count    so many turns were made, none of which was lost
--     IsRest c end                   a settle ends that makes no turn more
--     rest_of                        how it ends, by how many keys wait and are held
use Rattle.std.specs.Prelude.{◌≡◌, ◌≤◌, ℕ, ◌&&◌, ◌==◌, List, [], ◌∷◌, ◌++◌, length, Option, Some, None, if◌then◌else◌}
use Rattle.std.specs.List.{AllByRecursion}
use Rattle.hx_model.specs.Hands.{hand_of}
use Rattle.hx_core.specs.Bounding.{AreCounted, IsCounted, IsUnsettled}
use Rattle.hx_core.specs.Queued.{HasTurned, HaveTurned, IsTurning}
use Rattle.hx_core.specs.Refinement.{ClusterView, Simulates}
use Rattle.hx_core.specs.Turns.{IfOver, IsLeft, IsOver, end_entries, entries_of, loss_in, loss_of, turn_entries, turns_entries}
use Rattle.hx_queue.specs.Workers.{WorkersView}
use Rattle.hx_core.specs.declared.turns.Settle.{Settle}
use Rattle.hx_core.specs.declared.turns.Settle.TheVariants as settled
use Rattle.hx_core.specs.declared.turns.Turn.{Turn}
use Rattle.hx_core.specs.declared.turns.Turn.TheVariants as turn
use Rattle.hx_core.specs.declared.turns.Turned.{Turned}

-- ---- one turn

-- a turn was made, or none is, and why; worker 0 holds nothing afterwards
pub record IsTurn (old : ClusterView) (result : Turn) (new : ClusterView) : Type 0 where
  pub simulates : Simulates old (entries_of result) new
  pub leaves : IsTurning old result new
  pub over : IfOver result (IsOver new.workers)
  pub empty : hand_of 0 new.workers.hands ≡ None
  pub counts : IsCounted old result new

-- no turn was lost
abbrev pub IsWhole : List Turned → Type 0
IsWhole turns = AllByRecursion (λ (turned : Turned). loss_in turned.end ≡ None) turns

-- a turn was made that wasn't lost, and the trace got it
pub record IsTraced (old : ClusterView) (before : List Turned) (new : ClusterView) (after : List Turned) : Type 0 where
  pub turned : Turned
  pub trace : after ≡ before ++ turned ∷ []
  pub simulates : Simulates old (turn_entries turned) new
  pub leaves : HasTurned turned old new
  pub whole : loss_in turned.end ≡ None
  pub counts : IsCounted old (turn.Made turned) new

-- ---- ends

-- a settle ends before its turns are used up: its last turn was lost, or it makes none more
abbrev pub EndsWithin : Option Settle → WorkersView → Settle → Type 0
EndsWithin (Some loss) v end = end ≡ loss
EndsWithin None v end = IsOver v end

-- with at most one turn more. Where no worker held a key, none is left
pub record IsEnded (old : ClusterView) (before : List Turned) (new : ClusterView) (after : List Turned) (end : Settle) : Type 0 where
  pub made : List Turned
  pub trace : after ≡ before ++ made
  pub simulates : Simulates old (turns_entries made ++ end_entries end) new
  pub leaves : HaveTurned made old new
  pub ends : EndsWithin (loss_of made) new.workers end
  pub few : length made ≤ 1
  pub all : old.workers.hands ≡ [] → IsUnsettled end → ⊥

-- so many turns were made, none of which was lost
pub record IsRun (old : ClusterView) (before : List Turned) (new : ClusterView) (after : List Turned) (count : ℕ) : Type 0 where
  pub made : List Turned
  pub trace : after ≡ before ++ made
  pub simulates : Simulates old (turns_entries made) new
  pub leaves : HaveTurned made old new
  pub whole : IsWhole made
  pub counts : length made ≡ count
  pub empty : hand_of 0 new.workers.hands ≡ None
  pub counted : AreCounted old count new

-- a settle ends that makes no turn more
pub record IsRest (c : ClusterView) (end : Settle) : Type 0 where
  pub simulates : Simulates c (end_entries end) c
  pub left : IsLeft c.workers end

-- how it ends, by how many keys wait and are held
abbrev pub rest_of : ℕ → ℕ → Settle
rest_of waiting held = if (waiting == 0) && (held == 0) then settled.Settled else settled.Unsettled waiting held
