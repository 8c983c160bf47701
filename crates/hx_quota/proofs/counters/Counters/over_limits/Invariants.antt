use Rattle.std.specs.Prelude.{◌≡◌, drop}
use Rattle.hx_quota.specs.Limiting.{over_limits}
use Rattle.hx_quota.proofs.counters.Counters.over_limits.Given as goal

-- the limits that are left give the same as all
abbrev pub invariant-loop-limit : goal.invariant-loop-limit
invariant-loop-limit l = record {
  at_index : l.place ≡ l.limit-index;
  same : over_limits l.self.entries l.deltas l.quota.ns l.at l.place (drop l.limit-index l.quota.hard) ≡ over_limits l.self.entries l.deltas l.quota.ns l.at 0 l.quota.hard;
}
