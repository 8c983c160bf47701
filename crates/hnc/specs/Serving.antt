-- What serving links leaves of a cluster that was started.
--     HasServedInTurn P links c door door' keeper'     links were served over the cluster one after the other, with such a result, and its keeper was given back
--     HasServedShared P links c door door' keeper'     they were served over it by callers that shared it
--     HasServed P links c door door' keeper'     one or the other
--     is_alone serving       one session serves, and no worker beside it
--     HasServedAs P serving c door door' keeper'     links were served as the words ask: by one session that is alone, one after the other
use Rattle.std.specs.Prelude.{◌≡◌, ◌⊎◌, ℕ, Bool, false, ◌==◌, ◌&&◌, Some}
use Rattle.std.specs.declared.result.Result.{Result}
use Rattle.hx_ports.specs.Views.{KeeperView}
use Rattle.hx_core.specs.Refinement.{ClusterView}
use Rattle.hx_door.specs.Doors.{DoorView}
use Rattle.hx_door.specs.declared.door.DoorFault.{DoorFault}
use Rattle.hx_serve.specs.Visits.{Serves}
use Rattle.hx_shared.specs.Calls.{Log, StandsAt}
use Rattle.hx_team.specs.Team.{EndsServing, IsServedOut}
use Rattle.hx_words.specs.declared.command.Serving.{Serving}

-- at most so many links were served over the cluster, one after the other, with such a result, and its keeper was given back
pub record HasServedInTurn (P : Result ℕ DoorFault → Type 0) (links : ℕ) (c : ClusterView) (door door' : DoorView) (keeper' : KeeperView) : Type 0 where
  pub last : ClusterView
  pub result : Result ℕ DoorFault
  pub is : P result
  pub serves : Serves result (Some links) c last door door'
  pub keeper : keeper' ≡ last.keeper

-- at most so many were served over the cluster by callers that shared it, with such a result: it is what their calls left, and its keeper was given back
pub record HasServedShared (P : Result ℕ DoorFault → Type 0) (links : ℕ) (c : ClusterView) (door door' : DoorView) (keeper' : KeeperView) : Type 0 where
  pub last : ClusterView
  pub result : Result ℕ DoorFault
  pub is : P result
  pub calls : Log
  pub stands : StandsAt c calls last
  pub served : IsServedOut links door result door'
  pub ends : EndsServing links result door'
  pub keeper : keeper' ≡ last.keeper

-- one or the other
abbrev pub HasServed : (Result ℕ DoorFault → Type 0) → ℕ → ClusterView → DoorView → DoorView → KeeperView → Type 0
HasServed P links c door door' keeper' = HasServedInTurn P links c door door' keeper' ⊎ HasServedShared P links c door door' keeper'

-- one session serves, and no worker beside it
abbrev pub is_alone : Serving → Bool
is_alone serving = (serving.sessions == 1) && (serving.workers == 0)

-- one session that is alone serves links one after the other. Others do so only where no memory is left for what they share
abbrev pub HasServedAs : (Result ℕ DoorFault → Type 0) → Serving → ClusterView → DoorView → DoorView → KeeperView → Type 0
HasServedAs P serving c door door' keeper' = HasServedInTurn P serving.links c door door' keeper' ⊎ ((is_alone serving ≡ false) × HasServedShared P serving.links c door door' keeper')
