use Rattle.std.specs.Prelude.{◌≡◌, drop}
use Rattle.hx_quota.specs.Counters.{shifted}
use Rattle.hx_quota.proofs.Totals.{EachFits}
use Rattle.hx_quota.proofs.changing.totals_after.Given as goal

-- the deltas that are left give what all of them do, and each sum fits
abbrev pub invariant-loop-delta : goal.invariant-loop-delta
invariant-loop-delta l = record {
  same : shifted (drop l.delta-index l.deltas) l.after ≡ shifted l.deltas l.fn.totals;
  fits : EachFits l.after;
}
