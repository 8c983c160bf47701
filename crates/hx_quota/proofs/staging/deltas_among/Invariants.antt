use Rattle.std.specs.Prelude.{◌≡◌, ◌++◌, drop, option_copied}
use Rattle.hx_quota.specs.SubtreeUsage.{deltas_among}
use Rattle.hx_quota.proofs.staging.deltas_among.Given as goal

-- the deltas so far, with those of the resources that are left, are all
abbrev pub invariant-loop-resource : goal.invariant-loop-resource
invariant-loop-resource l = l.deltas.items ++ deltas_among (drop l.resource-index l.resources) (option_copied l.fn.old) (option_copied l.fn.new) ≡ deltas_among l.resources (option_copied l.fn.old) (option_copied l.fn.new)
