use Rattle.std.proofs.Common.{◌≡◌, ◌++◌, drop}
use Rattle.hx_model.specs.Wanted.{usages}
use Rattle.hx_reconcile.proofs.usage.usages.Given as goal

-- what is told so far, and of the rest of the limits
abbrev pub invariant-loop-index : goal.invariant-loop-index
invariant-loop-index l = l.told.items ++ usages (drop l.index l.hard) (drop l.index l.sums) ≡ usages l.hard l.sums
