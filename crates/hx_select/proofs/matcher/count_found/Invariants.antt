use Rattle.std.proofs.Common.{◌≡◌, ◌+◌, ◌≤◌, drop}
use Rattle.hx_select.specs.Matching.{are_met, found}
use Rattle.hx_select.proofs.matcher.count_found.Given as goal

-- what is left tells whether all are met, and with those so far how many are found
abbrev pub invariant-loop-label : goal.invariant-loop-label
invariant-loop-label l = record {
  met : are_met l.demands.entries (drop l.label-index l.labels) ≡ are_met l.demands.entries l.labels;
  same : l.count + found l.demands.entries (drop l.label-index l.labels) ≡ found l.demands.entries l.labels;
  fewer : l.count ≤ l.label-index;
}
