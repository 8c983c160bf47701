-- The state behind an entry is the one after what it writes.
--     answered_state   of an answer
--     state_written    of an entry
use Rattle.std.proofs.Common.{◌≡◌, ℕ, Option, Some, None, refl}
use Rattle.hx_model.specs.Answers.{answer_by, refusal_of, writes_of}
use Rattle.hx_model.specs.Hands.{Hand, hand_of}
use Rattle.hx_model.specs.Machine.{World, Entry, world_after, writes_if, given_back, Refused, Request, LostRequest, Took, Idle, Already, HeldBy, LostTake, Finished, Dropped, Checked, NoMemory, KeeperFault}
use Rattle.hx_model.specs.State.{State, state_after}
use Rattle.hx_model.specs.declared.ask.Ask.{Ask}
use Rattle.hx_model.specs.declared.key.Finish.{Finish}
use Rattle.hx_model.specs.declared.key.Finish.TheVariants as ending
use Rattle.hx_model.specs.declared.refusal.Refusal.{Refusal}
use Rattle.hx_model.specs.Excess.{writes_at}

pub answered_state : (s : State) (ask : Ask) (refusal : Option Refusal) → (answer_by s ask refusal).1 ≡ state_after s (writes_if refusal (writes_of s ask))
answered_state s ask (Some refusal) = refl
answered_state s ask None = refl

back_state : (w : World) (hand : Option Hand) (worker : ℕ) → (given_back w hand worker).state ≡ w.state
back_state w None worker = refl
back_state w (Some hand) worker = refl

finished_state : (w : World) (worker : ℕ) (end : Finish) → (world_after w (Finished worker end)).state ≡ state_after w.state (writes_at w (Finished worker end))
finished_state w worker ending.Empty = refl
finished_state w worker ending.Nothing = refl
finished_state w worker (ending.Conflict seen now) = back_state w (hand_of worker w.hands) worker
finished_state w worker ending.Spent = back_state w (hand_of worker w.hands) worker
finished_state w worker (ending.Written version) = refl
finished_state w worker ending.Fault = back_state w (hand_of worker w.hands) worker
finished_state w worker ending.NoMemory = back_state w (hand_of worker w.hands) worker

pub state_written : (w : World) (e : Entry) → (world_after w e).state ≡ state_after w.state (writes_at w e)
state_written w (Refused refusal) = refl
state_written w (Request ask answer) = answered_state w.state ask (refusal_of w.state ask)
state_written w (LostRequest ask NoMemory) = refl
state_written w (LostRequest ask KeeperFault) = refl
state_written w (Took worker k named) = refl
state_written w (Idle worker) = refl
state_written w (Already worker k) = refl
state_written w (HeldBy worker k holder) = refl
state_written w (LostTake worker) = refl
state_written w (Finished worker end) = finished_state w worker end
state_written w (Dropped worker key) = back_state w (hand_of worker w.hands) worker
state_written w (Checked waiting held) = refl
