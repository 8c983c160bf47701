use Rattle.std.proofs.Common.{take}
use Rattle.hx_script.specs.Inside.{texts_of}
use Rattle.hx_script.specs.Running.{Said}
use Rattle.hx_script.proofs.turns.write_pieces.Given as goal

abbrev pub invariant-loop-piece : goal.invariant-loop-piece
invariant-loop-piece g l = Said (texts_of (take l.piece-index l.pieces)) (g.W.Sink.shown l.fn.sink) (g.W.Sink.shown l.sink)
