use Rattle.std.specs.Prelude.{◌≡◌, drop}
use Rattle.hx_quota.specs.Limiting.{over_from, first_over}
use Rattle.hx_quota.proofs.counters.Counters.first_over.Given as goal

-- the quotas that are left give the same as all
abbrev pub invariant-loop-quota : goal.invariant-loop-quota
invariant-loop-quota l = record {
  place : l.at ≡ l.quota-index;
  same : over_from l.self.entries l.deltas l.at (drop l.quota-index l.quotas) ≡ first_over l.self.entries l.quotas l.deltas;
}
