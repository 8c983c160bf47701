use Rattle.std.specs.Prelude.{◌≡◌, ◌+◌, drop, sum_by}
use Rattle.hx_model.specs.Quotas.{charge_below}
use Rattle.hx_quota.proofs.walking.sum_below.Given as goal

-- the sum so far, with that of those that are left, is the whole
abbrev pub invariant-loop-object : goal.invariant-loop-object
invariant-loop-object l = l.sum + sum_by (charge_below l.forest.nodes l.ns l.resource) (drop l.object-index l.objects) ≡ sum_by (charge_below l.forest.nodes l.ns l.resource) l.objects
