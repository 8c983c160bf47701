use Rattle.std.proofs.Common.{length}
use Rattle.hx_queue.specs.Tied.{LinesUp}
use Rattle.hx_queue.proofs.workers.line_up_all.Given as goal

-- keys came in line since the start
abbrev pub invariant-loop-queue : goal.invariant-loop-queue
invariant-loop-queue l = LinesUp l.fn.queue l.queue l.fn.spread l.spread

abbrev pub decreases-loop-queue : goal.decreases-loop-queue
decreases-loop-queue l = length l.spread.ids
