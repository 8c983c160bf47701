use Rattle.std.proofs.Common.{◌≡◌, ◌-◌, ◌≤◌, [], take, drop, length}
use Rattle.hx_model.specs.Windows.{events_since}
use Rattle.hx_watch.proofs.window.first_over.Given as goal

abbrev pub invariant-loop-low : goal.invariant-loop-low
invariant-loop-low l = record {
  order : l.low ≤ l.high;
  within : l.high ≤ length l.ring.items;
  low : events_since l.version (take l.low l.ring.items) ≡ [];
  high : events_since l.version (drop l.high l.ring.items) ≡ drop l.high l.ring.items;
}

abbrev pub decreases-loop-low : goal.decreases-loop-low
decreases-loop-low l = l.high - l.low
