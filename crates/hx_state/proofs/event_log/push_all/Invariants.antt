use Rattle.std.proofs.Common.{◌≡◌, []}
use Rattle.std.specs.Vec.Iter.{into_iter_items}
use Rattle.hx_model.specs.Windows.{Ascend, most_events, newest, with_events}
use Rattle.hx_state.proofs.event_log.push_all.Given as goal

-- the window with the events that are left is the one with all of them
abbrev pub invariant-loop-event : goal.invariant-loop-event
invariant-loop-event l = record {
  window : with_events most_events l.window (into_iter_items l.event-iterator) ≡ with_events most_events l.initial.window (into_iter_items l.initial.event-iterator);
  whole : with_events most_events l.window [] ≡ l.window;
  ascend : Ascend (newest l.window) (into_iter_items l.event-iterator);
}
