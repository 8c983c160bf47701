-- What the parts of a worker's turn leave of a cluster.
--     IsNext f v k                a key is the first in a tree of those that wait, and nobody holds it
--     IsGiven worker k old take new    a worker was given a key that nobody holds, or no memory was left
--     IsTake, IsTakeOf            what takes do
--     IsDone s hand               a hand whose key needs no turn more: it isn't up to date, or its key wants nothing
--     IsFinish                    what the end of a turn does
--     IsTried hand write old end new   a hand's write was made, or nothing was
--     is_written                  a turn ended with its write
--     IsKept                      what a worker is answered that holds a brief already
--     chain_in, sums_in           the chain of facts that have one;  the sums of those that have some
--     is_removal                  the key of a removal: once its write is made it may want the next one
use Rattle.std.specs.Prelude.{◌≡◌, ◌<◌, ◌+◌, ℕ, Bool, true, false, List, [], ◌∷◌, None}
use Rattle.hx_model.specs.Forest.{Forest}
use Rattle.hx_model.specs.Hands.{Hand, hand_of, is_held, are_met, may_write, versioned}
use Rattle.hx_model.specs.Keys.{is_among}
use Rattle.hx_model.specs.Covered.{IsUpToDate}
use Rattle.hx_model.specs.Limits.{greatest_version}
use Rattle.hx_model.specs.Machine.{Finished}
use Rattle.hx_model.specs.State.{State}
use Rattle.hx_model.specs.Tree.{forest_of}
use Rattle.hx_model.specs.Wanted.{wanted_write}
use Rattle.hx_model.specs.declared.key.Finish.{Finish}
use Rattle.hx_model.specs.declared.key.Finish.TheVariants as ending
use Rattle.hx_model.specs.declared.key.Key.{Key}
use Rattle.hx_model.specs.declared.key.Key.TheVariants as key
use Rattle.hx_model.specs.declared.key.Write.{Write}
use Rattle.hx_order.specs.Ranks.{IsFirst}
use Rattle.hx_reconcile.specs.Briefs.{IsShort, StandsFor, hand_by, planned_by}
use Rattle.hx_reconcile.specs.declared.brief.Brief.{Brief}
use Rattle.hx_reconcile.specs.declared.brief.Facts.{Facts}
use Rattle.hx_reconcile.specs.declared.brief.Facts.TheVariants as facts
use Rattle.hx_core.specs.Committing.{HasLanded, HasFailed, HasMarked}
use Rattle.hx_core.specs.Queued.{GivesFirst, IsEnding, IsSameKeeping, IsTaking}
use Rattle.hx_core.specs.Refinement.{ClusterView, Simulates}
use Rattle.hx_core.specs.Turns.{IsInHand, IsOfKey, take_entry, take_key_entry}
use Rattle.hx_queue.specs.Workers.{WorkersView, IsTakenBy}
use Rattle.hx_core.specs.declared.turns.Take.{Take}
use Rattle.hx_core.specs.declared.turns.Take.TheVariants as take

-- ---- takes

-- a key is the first of those that wait, nobody holds it, and it isn't marked again
pub record IsNext (f : Forest) (v : WorkersView) (k : Key) : Type 0 where
  pub first : IsFirst f v.waiting k
  pub waits : is_among k v.waiting ≡ true
  pub free : is_held k v.hands ≡ false
  pub again : is_among k v.again ≡ false

-- a worker was given a key, as the state is
pub record IsJob (worker : ℕ) (k : Key) (old : ClusterView) (brief : Brief) (new : ClusterView) : Type 0 where
  pub same : IsSameKeeping old new
  pub key : brief.key ≡ k
  pub stands : StandsFor brief old.state
  pub short : IsShort brief.facts (planned_by brief)
  pub taken : IsTakenBy (hand_by worker brief) old.workers new.workers

-- or no memory was left
abbrev pub IsGiven : ℕ → Key → ClusterView → Take → ClusterView → Type 0
IsGiven worker k old (take.Job brief) new = IsJob worker k old brief new
IsGiven worker k old take.NoMemory new = new ≡ old
IsGiven worker k old other new = ⊥

-- the same of a state and of what workers hold
abbrev pub IsGivenBy : ℕ → Key → State → WorkersView → Take → WorkersView → Type 0
IsGivenBy worker k s old (take.Job brief) new = (brief.key ≡ k) × StandsFor brief s × IsShort brief.facts (planned_by brief) × IsTakenBy (hand_by worker brief) old new
IsGivenBy worker k s old take.NoMemory new = new ≡ old
IsGivenBy worker k s old other new = ⊥

-- what a take does whose line names no key
pub record IsTake (worker : ℕ) (old : ClusterView) (answer : Take) (new : ClusterView) : Type 0 where
  pub simulates : Simulates old (take_entry worker answer ∷ []) new
  pub hand : IsInHand new.workers.hands worker answer
  pub idle : answer ≡ take.Idle → (old.workers.waiting ≡ []) × (hand_of worker old.workers.hands ≡ None)
  pub unnamed : (holder : ℕ) → answer ≡ take.Other holder → ⊥
  pub leaves : IsTaking worker old answer new
  pub first : GivesFirst (forest_of old.state) old.workers.waiting answer

-- and one whose line names a key
pub record IsTakeOf (worker : ℕ) (k : Key) (old : ClusterView) (answer : Take) (new : ClusterView) : Type 0 where
  pub simulates : Simulates old (take_key_entry worker k answer ∷ []) new
  pub hand : IsInHand new.workers.hands worker answer
  pub key : IsOfKey k answer
  pub busy : answer ≡ take.Idle → ⊥
  pub leaves : IsTaking worker old answer new

-- ---- ends

-- a hand whose key needs no turn more: it isn't up to date, or its key wants nothing
abbrev pub IsDone : State → Hand → Type 0
IsDone s hand = IsUpToDate s hand → wanted_write s hand.key ≡ None

-- what the end of a worker's turn does
pub record IsFinish (worker : ℕ) (old : ClusterView) (end : Finish) (new : ClusterView) : Type 0 where
  pub simulates : Simulates old (Finished worker end ∷ []) new
  pub leaves : IsEnding worker old end new
  pub empty : hand_of worker new.workers.hands ≡ None

-- the write landed, and keys were marked
pub record IsWritten (hand : Hand) (write : Write) (old : ClusterView) (version : ℕ) (new : ClusterView) : Type 0 where
  pub version_is : version ≡ old.state.last + 1
  pub fits : old.state.last < greatest_version
  pub landed : HasLanded old.state old.keeper (versioned (old.state.last + 1) write ∷ []) new.state new.keeper
  pub marked : HasMarked old.state (versioned (old.state.last + 1) write ∷ []) old.workers new.workers
  pub past : are_met new.state hand.guards ≡ false

-- the keeper failed at it
pub record IsLost (write : Write) (old new : ClusterView) : Type 0 where
  pub fits : old.state.last < greatest_version
  pub failed : HasFailed old.state old.keeper (versioned (old.state.last + 1) write ∷ []) new.state new.keeper
  pub workers : new.workers ≡ old.workers

-- by how a turn ends: a hand's write was made, or nothing was
abbrev pub IsTried : Hand → Write → ClusterView → Finish → ClusterView → Type 0
IsTried hand write old ending.Empty new = ⊥
IsTried hand write old ending.Nothing new = ⊥
IsTried hand write old (ending.Conflict seen now) new = (may_write old.state hand write ≡ false) × (seen ≡ hand.seen) × (now ≡ old.state.last) × (new ≡ old)
IsTried hand write old ending.Spent new = (may_write old.state hand write ≡ true) × (old.state.last ≡ greatest_version) × (new ≡ old)
IsTried hand write old (ending.Written version) new = (may_write old.state hand write ≡ true) × IsWritten hand write old version new
IsTried hand write old ending.Fault new = (may_write old.state hand write ≡ true) × IsLost write old new
IsTried hand write old ending.NoMemory new = new ≡ old

-- ---- small words

-- a turn ended with its write
abbrev pub is_written : Finish → Bool
is_written (ending.Written version) = true
is_written _ = false

-- what a worker is answered that holds this brief already
abbrev pub IsKept : Brief → Take → Type 0
IsKept brief (take.Already other) = other ≡ brief
IsKept brief take.NoMemory = Unit {0}
IsKept brief other = ⊥

-- the chain of facts that have one
abbrev pub chain_in : Facts → List (List ℕ)
chain_in (facts.Tree ns takes_part chain) = chain
chain_in _ = []

-- the sums of the facts of a quota's status
abbrev pub sums_in : Facts → List ℕ
sums_in (facts.Used live quota sums) = sums
sums_in _ = []

-- the key of a removal: once its write is made it may want the next one
abbrev pub is_removal : Key → Bool
is_removal (key.Purge n) = true
is_removal _ = false
