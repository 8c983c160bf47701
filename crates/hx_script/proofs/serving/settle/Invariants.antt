use Rattle.hx_script.specs.Inside.{IsIdle}
use Rattle.hx_script.specs.Running.{MadeTurns}
use Rattle.hx_script.proofs.serving.settle.Given as goal

-- so many turns were made, and their lines written
abbrev pub invariant-loop-made : goal.invariant-loop-made
invariant-loop-made g l = record {
  idle : IsIdle l.cluster;
  made : MadeTurns l._made l.fn.cluster l.cluster (g.W.Sink.shown l.fn.sink) (g.W.Sink.shown l.sink);
}
