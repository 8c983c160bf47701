use Rattle.std.proofs.Common.{◌≡◌, ◌+◌, ◌≤◌, drop, length}
use Rattle.hx_object.specs.Sizes.{counted}
use Rattle.hx_object.proofs.faults.count.Given as goal

-- the labels so far that count, and those of the rest
abbrev pub invariant-loop-label : goal.invariant-loop-label
invariant-loop-label l = record {
  within : l.count ≤ l.label-index;
  same : l.count + length (counted (drop l.label-index l.labels)) ≡ length (counted l.labels);
}
