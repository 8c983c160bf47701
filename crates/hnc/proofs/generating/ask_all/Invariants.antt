use Rattle.std.proofs.Common.{length}
use Rattle.hnc.specs.Generating.{HasAskedAll}
use Rattle.hnc.proofs.generating.ask_all.Given as goal

-- what was asked so far was answered
abbrev pub invariant-loop : goal.invariant-loop
invariant-loop g l = HasAskedAll l.fn.generated l.generated l.fn.cluster l.cluster

-- fewer are left each time
abbrev pub decreases-loop : goal.decreases-loop
decreases-loop g l = length l.generated
