use Rattle.std.proofs.Common.{◌++◌, codes}
use Rattle.hx_script.specs.Inside.{texts_of}
use Rattle.hx_script.proofs.Saying.{Said-of, SaysText-after, SaysText-cut}
use Rattle.hx_script.proofs.turns.write_line.Goals as goal

pub returns-in_err-write_pieces : goal.returns-in_err-write_pieces
returns-in_err-write_pieces g c = SaysText-cut _ (texts_of c.args.head.now) (texts_of c.args.text.now ++ codes "\n") _ _ _ c.from_residual.result c.from_residual.ensures.1 c.in_err-write_pieces.ensures

pub returns-in_err-write_pieces-2 : goal.returns-in_err-write_pieces-2
returns-in_err-write_pieces-2 g c =
    SaysText-after (texts_of c.args.head.now) (texts_of c.args.text.now ++ codes "\n") _ _ _ c.from_residual-in_err-write_pieces-2.result
    (Said-of _ _ _ _ c.in_ok-write_pieces.ensures)
    (SaysText-cut _ (texts_of c.args.text.now) (codes "\n") _ _ _ c.from_residual-in_err-write_pieces-2.result c.from_residual-in_err-write_pieces-2.ensures.1 c.in_err-write_pieces-2.ensures)

pub returns : goal.returns
returns g c =
    SaysText-after (texts_of c.args.head.now) (texts_of c.args.text.now ++ codes "\n") _ _ _ _
    (Said-of _ _ _ _ c.in_ok-write_pieces.ensures)
    (SaysText-after (texts_of c.args.text.now) (codes "\n") _ _ _ _
    (Said-of _ _ _ _ c.in_ok-write_pieces-2.ensures)
    c.write_piece.ensures)
