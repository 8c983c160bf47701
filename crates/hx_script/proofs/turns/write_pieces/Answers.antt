use Rattle.std.proofs.Common.{List, ℕ, Bor}
use Rattle.hx_script.proofs.Saying.{SaysText-stop}
use Rattle.hx_script.proofs.turns.write_pieces.Goals as goal

pub returns-in_err-write_piece : goal.returns-in_err-write_piece
returns-in_err-write_piece g c = SaysText-stop _ (λ (piece : Bor (List ℕ)). piece.now) c.args.pieces.now c.loop-piece.piece-index _ _ _ _ _ c.from_residual.result c.from_residual.ensures.1 c.loop-piece-test.true c.loop-piece.invariant c.in_err-write_piece.ensures
