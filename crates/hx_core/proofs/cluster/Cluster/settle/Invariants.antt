use Rattle.hx_core.specs.Settling.{IsRun}
use Rattle.hx_core.proofs.cluster.Cluster.settle.Given as goal

-- so many turns were made
abbrev pub invariant-loop-made : goal.invariant-loop-made
invariant-loop-made g l = IsRun l.fn.self l.fn.trace.items l.self l.trace.items l._made
