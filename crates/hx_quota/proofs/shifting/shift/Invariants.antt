use Rattle.std.specs.Prelude.{◌≡◌, drop}
use Rattle.hx_quota.specs.Counters.{shifted}
use Rattle.hx_quota.specs.Inside.{MayShift}
use Rattle.hx_quota.proofs.shifting.shift.Given as goal

-- those that are left may be made, and leave what all of them do
abbrev pub invariant-loop-delta : goal.invariant-loop-delta
invariant-loop-delta l = record {
  may : MayShift (drop l.delta-index l.deltas) l.own;
  same : shifted (drop l.delta-index l.deltas) l.own ≡ shifted l.deltas l.fn.own;
}
