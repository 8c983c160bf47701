-- What a commit leaves of a cluster.
--     holding            what a keeper tells of what it holds, once it holds a state
--     Holds              a keeper that isn't broken holds the state
--     HasLanded          the writes landed
--     HasFailed          the keeper failed at them
--     StaysOut           a write puts nothing new into a namespace that is on its way out
--     IsOrderly          the writes are those of a request or of a key
--     IsPrepared         the state may make the writes, and the batch is theirs
--     marks_but          the keys that are marked, but for one
--     AreMarksBut        keys are those that cover writes, but for one
--     HasMarkedBut       keys that cover the writes were marked, but for one
--     HasMarked          keys were marked, each of which the writes may make wait
use Rattle.std.specs.Prelude.{◌≡◌, ◌≢◌, ◌≤◌, ◌+◌, ◌⊎◌, true, false, not, is_some, List, [], filter, Option, Some, None, IfSome, option_map}
use Rattle.std.specs.List.{AllByRecursion}
use Rattle.hx_object.specs.Kinds.{is_in_cluster}
use Rattle.hx_object.specs.declared.object.Id.{Id}
use Rattle.hx_object.specs.declared.object.Object.{Object}
use Rattle.hx_ports.specs.Causes.{Rose}
use Rattle.hx_ports.specs.Keeping.{Kept}
use Rattle.hx_ports.specs.Views.{KeeperView}
use Rattle.hx_ports.specs.declared.keeper.Batch.{Batch}
use Rattle.hx_model.specs.Keys.{same_key, is_among, may_mark}
use Rattle.hx_marks.specs.Halves.{Covers, IsRegular, IsWithin}
use Rattle.hx_model.specs.State.{State, events_of, namespace_id, object_at, state_after}
use Rattle.hx_model.specs.Tree.{is_terminating}
use Rattle.hx_model.specs.Writes.{MayWriteAll}
use Rattle.hx_model.specs.declared.key.Key.{Key}
use Rattle.hx_model.specs.declared.key.Write.{Write}
use Rattle.hx_model.specs.declared.key.Write.TheVariants.{Put, Cut}
use Rattle.hx_core.specs.Refinement.{kept_of}
use Rattle.hx_core.specs.Rows.{batch_of}
use Rattle.hx_queue.specs.Workers.{WorkersView, IsMarkedBy}
use Rattle.hx_watch.specs.Watching.{HaveFollowed}

-- what a keeper tells of what it holds once it holds the state, where it tells that
abbrev pub holding : State → Option Kept → Option Kept
holding s kept = option_map (λ _. kept_of s) kept

-- the writes, which may be made, are made, and the keeper holds them. Its watchers were told of their events, and all else of it stays
pub record HasLanded (old : State) (before : KeeperView) (writes : List Write) (new : State) (after : KeeperView) : Type 0 where
  pub may : MayWriteAll old writes
  pub state : new ≡ state_after old writes
  pub place : after.place ≡ before.place
  pub kept : after.kept ≡ holding new before.kept
  pub whole : before.broken ≡ false
  pub broken : after.broken ≡ before.broken
  pub faults : after.faults ≡ before.faults
  pub told : HaveFollowed (events_of old writes) before.watchers after.watchers

-- the keeper failed and is broken. It holds what it held or, where it wasn't broken before, that with the writes, which may be made. Its watchers were told of nothing
pub record HasFailed (old : State) (before : KeeperView) (writes : List Write) (new : State) (after : KeeperView) : Type 0 where
  pub may : MayWriteAll old writes
  pub state : new ≡ old
  pub place : after.place ≡ before.place
  pub broken : after.broken ≡ true
  pub kept : (after.kept ≡ before.kept) ⊎ ((before.broken ≡ false) × (after.kept ≡ holding (state_after old writes) before.kept))
  pub later : before.faults ≤ after.faults
  pub rose : Rose before.faults after.faults
  pub watchers : after.watchers ≡ before.watchers

-- a keeper that isn't broken holds the state, where it tells what it holds
abbrev pub Holds : State → KeeperView → Type 0
Holds s keeper = keeper.broken ≡ false → IfSome keeper.kept (λ held. held ≡ kept_of s)

-- the state may make the writes, there are some, and the batch is theirs, with their events
pub record IsPrepared (s : State) (writes : List Write) (batch : Batch) : Type 0 where
  pub may : MayWriteAll s writes
  pub some : writes ≢ []
  pub is : batch ≡ batch_of writes (s.last + 1) (events_of s writes)

-- an object of this identity is there already, where its namespace is on its way out
abbrev pub IsOutOrThere : State → Id → Type 0
IsOutOrThere s id = (home : Object) → is_in_cluster id.kind ≡ false → object_at s.objects (namespace_id id.ns) ≡ Some home → is_terminating home.payload ≡ true → is_some (object_at s.objects id) ≡ true

-- a write puts nothing new into a namespace that is on its way out
abbrev pub StaysOut : State → Write → Type 0
StaysOut s (Put x) = IsOutOrThere s x.id
StaysOut s (Cut id) = Unit {0}

-- The writes are those of a request or of a key: there is one, or each ends something, and nothing new comes into a namespace that is on its way out
pub record IsOrderly (s : State) (writes : List Write) : Type 0 where
  pub regular : IsRegular s writes
  pub out : AllByRecursion (StaysOut s) writes

-- the keys that are marked, but for one
abbrev pub marks_but : Option Key → List Key → List Key
marks_but None keys = keys
marks_but (Some own) keys = filter (λ k. not (same_key own k)) keys

-- the keys are some that cover the writes and lie within what these may make wait, but for one
pub record AreMarksBut (s : State) (writes : List Write) (own : Option Key) (keys : List Key) : Type 0 where
  pub marks : List Key
  pub covers : Covers s writes marks
  pub within : IsWithin s writes marks
  pub is : keys ≡ marks_but own marks

-- keys that cover the writes and lie within what these may make wait were marked, but for one
pub record HasMarkedBut (s : State) (writes : List Write) (own : Option Key) (old new : WorkersView) : Type 0 where
  pub marks : List Key
  pub covers : Covers s writes marks
  pub within : IsWithin s writes marks
  pub marked : IsMarkedBy (marks_but own marks) old new

-- keys were marked, each of which the writes may make wait. Without writes nothing changes
pub record HasMarked (s : State) (writes : List Write) (old new : WorkersView) : Type 0 where
  pub keys : List Key
  pub may : (k : Key) → is_among k keys ≡ true → may_mark s writes k ≡ true
  pub marked : IsMarkedBy keys old new
  pub none : writes ≡ [] → new ≡ old
