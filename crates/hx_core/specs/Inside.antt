-- What a cluster keeps true of its fields.
--     view_of          what a cluster is seen as
--     IsSound          the state is valid, the keeper holds it, no work is forgotten, what is held was taken in an earlier state, there is a world for all, and nothing is staged
--     IsInside         that, and what is marked as a whole is marked in the right namespaces, and keys lie as deep as is kept
use Rattle.std.specs.Prelude.{◌≡◌, ℕ, List, [], Option}
use Rattle.std.specs.List.{AllByRecursion}
use Rattle.hx_ports.specs.Views.{KeeperView}
use Rattle.hx_model.specs.Covered.{IsCovered}
use Rattle.hx_model.specs.State.{State}
use Rattle.hx_model.specs.Tree.{forest_of}
use Rattle.hx_model.specs.Valid.{IsValid}
use Rattle.hx_model.specs.declared.key.Key.{Key}
use Rattle.hx_model.specs.declared.key.Write.{Write}
use Rattle.hx_line.specs.Line.{IsRanked}
use Rattle.hx_core.specs.Committing.{Holds}
use Rattle.hx_core.specs.Reaching.{IsScopeOf}
use Rattle.hx_core.specs.Refinement.{ClusterView, HasWorld}
use Rattle.hx_core.specs.Turns.{IsOf}
use Rattle.hx_queue.specs.Spread.{Scope}
use Rattle.hx_queue.specs.Workers.{WorkersView}

-- a state, what workers hold and which keys wait, and what the keeper shows
abbrev pub view_of : State → WorkersView → KeeperView → ClusterView
view_of s workers keeper = record { state = s; workers = workers; keeper = keeper }

-- The state is valid, and a keeper that isn't broken holds it. Each key that wants a write waits, or is held and marked again, or is held by a hand that is up to date. What is held was taken in this state or an earlier one. The cluster stands for a world, and no write is staged
pub record IsSound (s : State) (workers : WorkersView) (keeper : KeeperView) (staged : List Write) : Type 0 where
  pub valid : IsValid s
  pub held : Holds s keeper
  pub covered : IsCovered s workers.hands workers.waiting workers.again
  pub taken : AllByRecursion (IsOf s) workers.hands
  pub world : HasWorld (view_of s workers keeper)
  pub none : staged ≡ []

-- The fields are sound, the namespaces that keys are marked in as a whole are those of the state's tree, and so is how deep keys lie
pub record IsInside (s : State) (workers : WorkersView) (place : Option Scope) (depths : List (Key × ℕ)) (keeper : KeeperView) (staged : List Write) : Type 0 where
  pub sound : IsSound s workers keeper staged
  pub scope : IsScopeOf (forest_of s) place
  pub ranks : IsRanked (forest_of s) depths
