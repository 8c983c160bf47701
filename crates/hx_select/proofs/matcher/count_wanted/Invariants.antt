use Rattle.std.proofs.Common.{◌≡◌, ◌+◌, ◌≤◌, length}
use Rattle.std.specs.Map.{values_of}
use Rattle.hx_select.specs.Matching.{wanted}
use Rattle.hx_select.proofs.matcher.count_wanted.Given as goal

-- those so far, and those among what is left, are those among the whole
abbrev pub invariant-loop-demand : goal.invariant-loop-demand
invariant-loop-demand l = record {
  same : l.count + wanted l.demand-iterator ≡ wanted (values_of l.demands.entries);
  fewer : l.count + length l.demand-iterator ≤ length l.demands.entries;
}
