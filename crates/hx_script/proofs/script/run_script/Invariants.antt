use Rattle.std.proofs.Common.{◌≡◌, ◌≤◌, ◌<◌, ◌-◌, ◌^◌, length}
use Rattle.hx_ports.specs.Pieces.{IsCalm}
use Rattle.hx_script.specs.Inside.{IsIdle}
use Rattle.hx_script.specs.Running.{IsWaiting, ReadsOn}
use Rattle.hx_script.proofs.script.run_script.Given as goal

abbrev pub invariant-reading : goal.invariant-reading
invariant-reading g l = record {
  waits : IsWaiting l.waiting.items;
  idle : IsIdle l.cluster;
  room : 0 < length l.piece.items;
  few : l.total ≤ 2 ^ 40;
  reads : ReadsOn (g.S.Source.shown l.fn.source).left (g.S.Source.shown l.source).left l.total l.waiting.items l.fn.cluster l.cluster (g.W.Sink.shown l.fn.sink).written (g.W.Sink.shown l.sink).written;
  read_calm : (g.S.Source.shown l.source).faults ≡ (g.S.Source.shown l.fn.source).faults;
  write_calm : IsCalm (g.W.Sink.shown l.fn.sink) (g.W.Sink.shown l.sink);
}

abbrev pub decreases-reading : goal.decreases-reading
decreases-reading g l = 2 ^ 40 - l.total
