use Rattle.std.proofs.Common.{◌≡◌, ◌++◌, take}
use Rattle.std.specs.String.{string_bytes}
use Rattle.hx_script.specs.Inside.{texts_of}
use Rattle.hx_script.proofs.turns.lay.Given as goal

abbrev pub invariant-loop-piece : goal.invariant-loop-piece
invariant-loop-piece l = string_bytes l.room ≡ string_bytes l.fn.room ++ texts_of (take l.piece-index l.pieces)
