use Rattle.std.proofs.Common.{arith}
use Rattle.hx_select.proofs.Stripping.{cut_by}
use Rattle.hx_select.proofs.pieces.cut_piece.Goals as goal

pub returns-clause-pieces : goal.returns-clause-pieces
returns-clause-pieces c = cut_by c.args.text.now c.split_once.result (c.split_once.ensures.byte (omega arith) (λ w o f. f))
