-- What a state with its indexes is seen as, and what it keeps true.
--     StateView        the state, and the writes that are staged
--     state_in         the state of objects, a version, a run's settings and a window of events
--     Agrees           objects in order, each of which is stored and has its namespace, with their numbers, their tree and their owners
--     IsIndexed        the indexes agree with the objects, and what is staged with those after it
use Rattle.std.specs.Prelude.{◌≡◌, ◌≢◌, ◌≤◌, ◌+◌, ℕ, true, List, [], refl}
use Rattle.std.specs.Coded.{Coded, code_by, coded×, coded_list, coded_ℕ}
use Rattle.std.specs.List.{AllByRecursion}
use Rattle.hx_object.specs.declared.object.Object.{Object}
use Rattle.hx_object.specs.contracts.object.Object as object
use Rattle.hx_forest.specs.Kept.{ForestView, changed_by_all}
use Rattle.hx_model.specs.Forest.{Forest}
use Rattle.hx_model.specs.Limits.{greatest_version}
use Rattle.hx_model.specs.State.{State, Objects, ascends, after_writes, events_of}
use Rattle.hx_model.specs.Subnamespaces.{owners_in}
use Rattle.hx_model.specs.Tree.{forest_in}
use Rattle.hx_model.specs.Valid.{IsStored, AreHoused, IsRecent}
use Rattle.hx_model.specs.Windows.{WindowView, most_events, with_events}
use Rattle.hx_model.specs.contracts.config.RunConfig as run_config
use Rattle.hx_model.specs.contracts.key.Write as write
use Rattle.hx_model.specs.declared.config.RunConfig.{RunConfig}
use Rattle.hx_model.specs.declared.key.Write.{Write}
use Rattle.hx_quota.specs.SubtreeUsage.{UsageView, IsCounted}
use Rattle.hx_store.specs.Kept.{StoreView}
use Rattle.hx_watch.specs.Windows.{window_code}
use Rattle.hx_state.specs.Counting.{counts_of}
use Rattle.hx_state.specs.Happening.{LogView}
use Rattle.hx_state.specs.declared.limits.LimitCounts.{LimitCounts}

-- the state, and the writes that are staged
pub record StateView : Type 0 where
  pub state : State
  pub staged : List Write

-- what is seen, as pairs
abbrev pub state_view_code : Coded StateView
state_view_code = code_by (List Object × (ℕ × (RunConfig × (WindowView × List Write))))
    (coded× (coded_list object.the_row.coded) (coded× coded_ℕ (coded× run_config.the_row.coded (coded× window_code (coded_list write.the_row.coded)))))
    (λ v. (v.state.objects, (v.state.last, (v.state.config, (v.state.window, v.staged)))))
    (λ p. record { state = record { objects = p.0; last = p.1.0; config = p.1.1.0; window = p.1.1.1.0 }; staged = p.1.1.1.1 }) (λ _. refl)

-- the state of objects, a version, a run's settings and a window of events
abbrev pub state_in : RunConfig → Objects → ℕ → WindowView → State
state_in config objects last window = record { objects = objects; last = last; config = config; window = window }

-- Objects in order, each of which is stored and has its namespace, with their numbers, their tree and their owners: all namespaces, each under the parent that its annotation names. No limit of names, objects or bytes is kept: limits are refusals of requests
pub record Agrees (config : RunConfig) (objects : Objects) (last : ℕ) (counts : LimitCounts) (nodes owners : Forest) : Type 0 where
  pub in_order : ascends objects ≡ true
  pub stored : AllByRecursion (IsStored last) objects
  pub housed : AreHoused objects
  pub fits : last ≤ greatest_version
  pub numbers : counts ≡ counts_of objects
  pub planted : nodes ≡ forest_in config.excluded objects
  pub owned : owners ≡ owners_in objects

-- the indexes agree with the objects, and where writes are staged, the changes that are ready agree with the objects after them; so does what is counted of the subtrees. The window is of this run, and the events that are ready are those of the staged writes
pub record IsIndexed (config : RunConfig) (store : StoreView) (counts next : LimitCounts) (forest owners : ForestView) (usage : UsageView) (log : LogView) : Type 0 where
  pub now : Agrees config store.objects store.version counts forest.nodes owners.nodes
  pub then : store.staged ≢ [] → Agrees config (after_writes store.staged store.objects) (store.version + 1) next (changed_by_all forest.staged forest.nodes) (changed_by_all owners.staged owners.nodes)
  pub counted : IsCounted store.objects forest.nodes usage.now
  pub counted_then : store.staged ≢ [] → IsCounted (after_writes store.staged store.objects) (changed_by_all forest.staged forest.nodes) usage.next
  pub recent : IsRecent store.version log.window
  pub recent_then : store.staged ≢ [] → IsRecent (store.version + 1) (with_events most_events log.window log.staged)
  pub told : log.staged ≡ events_of (state_in config store.objects store.version log.window) store.staged
