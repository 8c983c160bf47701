use Rattle.std.proofs.Common.{◌≡◌, ◌-◌, ◌≤◌, drop, length}
use Rattle.std.specs.Prelude.{find as find_first}
use Rattle.hx_ports.specs.Rows.{entries_of, lies_behind}
use Rattle.hx_ports.proofs.Behind.{Lies}
use Rattle.hx_ports.proofs.given_rows.place_behind.Given as goal

abbrev pub invariant-loop-low : goal.invariant-loop-low
invariant-loop-low l = record {
  order : l.low ≤ l.high;
  within : l.high ≤ length l.given;
  low : find_first (lies_behind l.after) (drop l.low (entries_of l.given)) ≡ find_first (lies_behind l.after) (entries_of l.given);
  high : Lies l.after l.given l.high;
}

abbrev pub decreases-loop-low : goal.decreases-loop-low
decreases-loop-low l = l.high - l.low
