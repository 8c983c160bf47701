-- What a cluster is seen as, the worlds that it stands for, and the entries that its calls make.
--     ClusterView            a cluster's state, what workers hold and which keys wait, and what its keeper shows
--     kept_of s              what a keeper holds of a state
--     IsKeptOf w held        what the keeper may hold in a world: its state or, once it broke, that with the write at which it broke
--     IsValidWorld w         its state is valid, and the one that the store may hold after a fault
--     AllValid w es          so is each world of a history
--     Represents c w         the cluster stands for the world
--     HasWorld c             there is such a world
--     Simulates old es new   the calls that led from one view to the other made these entries
use Rattle.std.specs.Prelude.{◌≡◌, ◌≤◌, ◌⊎◌, ℕ, Bool, true, false, List, [], ◌∷◌, Option, IfSome, IsSomeAnd, is_some, refl}
use Rattle.std.specs.Coded.{Coded, code_by, coded×, coded_list, coded_ℕ, coded_bool, coded_option}
use Rattle.std.specs.FinMap as map
use Rattle.hx_object.specs.declared.object.Object.{Object}
use Rattle.hx_object.specs.contracts.object.Object as object
use Rattle.hx_ports.specs.Causes.{Rose}
use Rattle.hx_ports.specs.Keeping.{Kept, Rows}
use Rattle.hx_ports.specs.Views.{KeeperView}
use Rattle.hx_model.specs.State.{State}
use Rattle.hx_model.specs.contracts.config.RunConfig as run_config
use Rattle.hx_model.specs.declared.config.RunConfig.{RunConfig}
use Rattle.hx_model.specs.Texts.{rows_of}
use Rattle.hx_model.specs.Machine.{World, History, IsHistory, replay, loses_to_fault, world_after}
use Rattle.hx_model.specs.Valid.{IsValid}
use Rattle.hx_model.specs.Windows.{WindowView}
use Rattle.hx_model.specs.Happening.{events_in}
use Rattle.hx_core.specs.Rows.{current_schema}
use Rattle.hx_queue.specs.Workers.{WorkersView, workers_code}
use Rattle.hx_watch.specs.Watching.{HaveFollowed, Members, members_code}
use Rattle.hx_watch.specs.Windows.{window_code}
use Rattle.hx_model.specs.Keys.{is_among}
use Rattle.hx_model.specs.declared.key.Key.{Key}

-- the state, what workers hold and which keys wait, and what the keeper shows
pub record ClusterView : Type 0 where
  pub state : State
  pub workers : WorkersView
  pub keeper : KeeperView

-- what a keeper holds of a state
abbrev pub kept_of : State → Kept
kept_of s = record { schema = current_schema; version = s.last; rows = rows_of s }

-- what the keeper may hold in a world: the state or, once it broke, the state with the write at which it broke
abbrev pub IsKeptOf : World → Kept → Type 0
IsKeptOf w held = (held ≡ kept_of w.state) ⊎ ((w.broken ≡ true) × IsSomeAnd w.torn (λ s. held ≡ kept_of s))

-- the state is valid, and the one that the store may hold after a fault
pub record IsValidWorld (w : World) : Type 0 where
  pub state : IsValid w.state
  pub torn : IfSome w.torn IsValid

-- so is each world of a history, from the first to the last
abbrev pub AllValid : World → History → Type 0
AllValid w [] = IsValidWorld w
AllValid w (e ∷ es) = IsValidWorld w × AllValid (world_after w e) es

-- The cluster stands for the world, which is valid: it has its state and its hands, and its keeper holds what it may. What waits in it, or was marked while it was held, may wait in the world
pub record Represents (c : ClusterView) (w : World) : Type 0 where
  pub valid : IsValidWorld w
  pub state : w.state ≡ c.state
  pub hands : w.hands ≡ c.workers.hands
  pub waiting : (k : Key) → is_among k c.workers.waiting ≡ true → w.marked k ≡ true
  pub again : (k : Key) → is_among k c.workers.again ≡ true → w.marked k ≡ true
  pub broken : w.broken ≡ c.keeper.broken
  pub kept : IfSome c.keeper.kept (IsKeptOf w)

-- there is a world that the cluster stands for
abbrev pub HasWorld : ClusterView → Type 0
HasWorld c = (w : World) × Represents c w

-- The calls that led from one view to another made these entries: they are legal, one after the other, in every world that the cluster stood for, and it then stands for the world that they leave. There is such a world, and each world on the way is valid.
-- The keeper's count of faults rose where an entry was lost to a fault, and stayed where none was. Its watchers were told of the events of the entries, and of nothing else. The keeper stayed at its place, and one that told what it holds still tells it.
pub record Simulates (old : ClusterView) (entries : History) (new : ClusterView) : Type 0 where
  pub stood : HasWorld old
  pub steps : (w : World) → Represents old w → IsHistory w entries × Represents new (replay w entries)
  pub valid : (w : World) → Represents old w → AllValid w entries
  pub later : old.keeper.faults ≤ new.keeper.faults
  pub cause : loses_to_fault entries ≡ true → Rose old.keeper.faults new.keeper.faults
  pub still : loses_to_fault entries ≡ false → new.keeper.faults ≡ old.keeper.faults
  pub told : (w : World) → Represents old w → HaveFollowed (events_in w entries) old.keeper.watchers new.keeper.watchers
  pub tells : is_some new.keeper.kept ≡ is_some old.keeper.kept
  pub place : new.keeper.place ≡ old.keeper.place

-- ---- views as pairs

-- what is held
abbrev pub kept_code : Coded Kept
kept_code = code_by (ℕ × (ℕ × Rows)) (coded× coded_ℕ (coded× coded_ℕ (map.code (coded_list coded_ℕ) (coded× coded_ℕ (coded_list coded_ℕ)))))
    (λ k. (k.schema, (k.version, k.rows))) (λ p. record { schema = p.0; version = p.1.0; rows = p.1.1 }) (λ _. refl)

-- what a keeper shows
abbrev pub keeper_view_code : Coded KeeperView
keeper_view_code = code_by (Option (List ℕ) × (Option Kept × (Bool × (ℕ × Members)))) (coded× (coded_option (coded_list coded_ℕ)) (coded× (coded_option kept_code) (coded× coded_bool (coded× coded_ℕ members_code))))
    (λ k. (k.place, (k.kept, (k.broken, (k.faults, k.watchers))))) (λ p. record { place = p.0; kept = p.1.0; broken = p.1.1.0; faults = p.1.1.1.0; watchers = p.1.1.1.1 }) (λ _. refl)

-- a state
abbrev pub state_code : Coded State
state_code = code_by (List Object × (ℕ × (RunConfig × WindowView))) (coded× (coded_list object.the_row.coded) (coded× coded_ℕ (coded× run_config.the_row.coded window_code)))
    (λ s. (s.objects, (s.last, (s.config, s.window)))) (λ p. record { objects = p.0; last = p.1.0; config = p.1.1.0; window = p.1.1.1 }) (λ _. refl)

-- what a cluster shows
abbrev pub cluster_view_code : Coded ClusterView
cluster_view_code = code_by (State × (WorkersView × KeeperView)) (coded× state_code (coded× workers_code keeper_view_code)) (λ c. (c.state, (c.workers, c.keeper))) (λ p. record { state = p.0; workers = p.1.0; keeper = p.1.1 }) (λ _. refl)
