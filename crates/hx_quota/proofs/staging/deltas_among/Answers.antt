use Rattle.std.proofs.Common.{ap, sym, ◌∙◌, ◌++◌, List, option_copied}
use Rattle.hx_quota.specs.declared.entry.Delta.{Delta}
use Rattle.hx_quota.proofs.DeltasAmong.{skip_delta}
use Rattle.hx_quota.proofs.staging.deltas_among.Goals as goal

pub loop-resource-preserved-then-before-after : goal.loop-resource-preserved-then-before-after
loop-resource-preserved-then-before-after c =
    ap (λ (ds : List Delta). c.loop-resource.deltas.items ++ ds) (sym (skip_delta c.args.resources.now c.loop-resource.resource-index (option_copied c.args.old) (option_copied c.args.new) c.charge_before-before.result c.charge_before-after.result
    c.loop-resource-test.true c.charge_before-before.ensures c.charge_before-after.ensures c.if-before-after.true)) ∙ c.loop-resource.invariant
