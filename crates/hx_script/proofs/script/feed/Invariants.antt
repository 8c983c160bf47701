use Rattle.std.proofs.Common.{take, length, ◌≤◌, ◌-◌, ◌++◌}
use Rattle.hx_ports.specs.Pieces.{IsCalm}
use Rattle.hx_script.specs.Inside.{IsIdle}
use Rattle.hx_script.specs.Running.{IsKept, IsWaiting, Feeds}
use Rattle.hx_script.proofs.script.feed.Given as goal

abbrev pub invariant-loop-end : goal.invariant-loop-end
invariant-loop-end g l = record {
  within : l.at ≤ length l.piece;
  waits : IsWaiting l.waiting.items;
  kept : IsKept (l.fn.waiting.items ++ take l.at l.piece) l.waiting.items;
  idle : IsIdle l.cluster;
  calm : IsCalm (g.W.Sink.shown l.fn.sink) (g.W.Sink.shown l.sink);
  feeds : Feeds l.fn.waiting.items (take l.at l.piece) l.waiting.items l.fn.cluster l.cluster (g.W.Sink.shown l.fn.sink).written (g.W.Sink.shown l.sink).written;
}

abbrev pub decreases-loop-end : goal.decreases-loop-end
decreases-loop-end g l = length l.piece - l.at
