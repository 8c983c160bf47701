-- What calls leave of what workers hold and of the keys that wait.
--     IsSameKeeping old new          the state and the keeper stay
--     writes_in s e                  what a request writes, by its entry
--     IsLet, IsReleased              a worker lets go what it holds
--     HasTaken worker old brief new  a worker took a key
--     IsTaking worker old take new   what a take leaves, by its answer
--     GivesFirst f keys take         the key that it gives is the first one in a tree
--     HasWritten, IsEnding           what the end of a turn leaves: with a write, and by how it ended
--     HasTurned, IsTurning           a turn of a settle was made, or none
--     HaveTurned                     turns were made, one after the other
use Rattle.std.specs.Prelude.{◌≡◌, ℕ, Bool, true, false, List, [], ◌∷◌, Option, Some, None}
use Rattle.hx_model.specs.Forest.{Forest}
use Rattle.hx_model.specs.Hands.{Hand, hand_of}
use Rattle.hx_model.specs.Machine.{Entry, Request, writes_by, writes_made}
use Rattle.hx_model.specs.State.{State}
use Rattle.hx_model.specs.Tree.{forest_of}
use Rattle.hx_model.specs.declared.key.Finish.{Finish}
use Rattle.hx_model.specs.declared.key.Finish.TheVariants as ending
use Rattle.hx_model.specs.declared.key.Key.{Key}
use Rattle.hx_model.specs.declared.key.Write.{Write}
use Rattle.hx_order.specs.Ranks.{IsFirst}
use Rattle.hx_reconcile.specs.Briefs.{hand_by}
use Rattle.hx_reconcile.specs.declared.brief.Brief.{Brief}
use Rattle.hx_core.specs.Committing.{HasMarked}
use Rattle.hx_core.specs.Refinement.{ClusterView}
use Rattle.hx_queue.specs.Workers.{WorkersView, IsTakenBy, IsLetGo}
use Rattle.hx_core.specs.declared.turns.Take.{Take}
use Rattle.hx_core.specs.declared.turns.Take.TheVariants as take
use Rattle.hx_core.specs.declared.turns.Turn.{Turn}
use Rattle.hx_core.specs.declared.turns.Turn.TheVariants as turn
use Rattle.hx_core.specs.declared.turns.Turned.{Turned}

-- the state and the keeper stay
pub record IsSameKeeping (old new : ClusterView) : Type 0 where
  pub state : new.state ≡ old.state
  pub keeper : new.keeper ≡ old.keeper

-- what a request writes, by its entry: nothing where it was lost
abbrev pub writes_in : State → Entry → List Write
writes_in s (Request ask answer) = writes_made s ask
writes_in s _ = []

-- ---- takes

-- a worker took a key, and all else stays
pub record HasTaken (worker : ℕ) (old : ClusterView) (brief : Brief) (new : ClusterView) : Type 0 where
  pub same : IsSameKeeping old new
  pub taken : IsTakenBy (hand_by worker brief) old.workers new.workers

-- by its answer: where no key was given nothing changes
abbrev pub IsTaking : ℕ → ClusterView → Take → ClusterView → Type 0
IsTaking worker old (take.Job brief) new = HasTaken worker old brief new
IsTaking worker old answer new = new ≡ old

-- the key that is given is the first of some keys in a tree
abbrev pub GivesFirst : Forest → List Key → Take → Type 0
GivesFirst f keys (take.Job brief) = IsFirst f keys brief.key
GivesFirst f keys answer = Unit {0}

-- ---- ends

-- a worker lets go what it holds, if anything
abbrev pub IsLet : ℕ → Bool → Option Hand → WorkersView → WorkersView → Type 0
IsLet worker waits None old new = new ≡ old
IsLet worker waits (Some hand) old new = IsLetGo worker hand.key waits old new

pub record IsReleased (worker : ℕ) (waits : Bool) (old new : ClusterView) : Type 0 where
  pub same : IsSameKeeping old new
  pub workers : IsLet worker waits (hand_of worker old.workers.hands) old.workers new.workers

-- a hand's write was made: keys were marked, and then the hand was let go
pub record HasWritten (worker : ℕ) (hand : Option Hand) (old new : ClusterView) : Type 0 where
  pub between : WorkersView
  pub marked : HasMarked old.state (writes_by old.state hand) old.workers between
  pub gone : IsLet worker false hand between new.workers

-- by how a turn ended: a key whose turn wrote nothing waits again, unless it wanted nothing
abbrev pub IsEnding : ℕ → ClusterView → Finish → ClusterView → Type 0
IsEnding worker old ending.Empty new = new ≡ old
IsEnding worker old ending.Nothing new = IsReleased worker false old new
IsEnding worker old (ending.Conflict seen now) new = IsReleased worker true old new
IsEnding worker old ending.Spent new = IsReleased worker true old new
IsEnding worker old (ending.Written version) new = HasWritten worker (hand_of worker old.workers.hands) old new
IsEnding worker old ending.Fault new = IsLet worker true (hand_of worker old.workers.hands) old.workers new.workers
IsEnding worker old ending.NoMemory new = IsReleased worker true old new

-- ---- turns of a settle

-- worker 0 took the first of the keys that wait, and its turn ended
pub record HasTurned (turned : Turned) (old new : ClusterView) : Type 0 where
  pub between : ClusterView
  pub brief : Brief
  pub taken : HasTaken 0 old brief between
  pub key : brief.key ≡ turned.key
  pub first : IsFirst (forest_of old.state) old.workers.waiting turned.key
  pub ended : IsEnding 0 between turned.end new

-- where none was made nothing changes
abbrev pub IsTurning : ClusterView → Turn → ClusterView → Type 0
IsTurning old (turn.Made turned) new = HasTurned turned old new
IsTurning old (turn.Over end) new = new ≡ old

-- turns were made, each on what the one before left
abbrev pub HaveTurned : List Turned → ClusterView → ClusterView → Type 0
HaveTurned [] old new = new ≡ old
HaveTurned (turned ∷ turns) old new = (between : ClusterView) × HasTurned turned old between × HaveTurned turns between new
