use Rattle.std.proofs.Common.{◌-◌, ◌∙◌, sym, arith}
use Rattle.std.proofs.lemmas.List.{get_or_read}
use Rattle.hx_overlay.proofs.ByteByByte.{overlaid_below, overlaid_behind, overlaid_in}
use Rattle.hx_overlay.proofs.change.Piece.byte.Goals as goal
use Rattle.hx_overlay.proofs.change.Piece.byte.Goals.{then-place-self-via-then-place-self, then-place-self-via-else-place-self+then-place-end}

pub returns-then-place-self : goal.returns-then-place-self
returns-then-place-self c file was = elim c.then-place-self.branch [
  | then-place-self-via-then-place-self w ↦ was ∙ sym (overlaid_below file c.args.self.now.at c.args.self.now.bytes.items c.args.place w.if-place-self.true)
  | then-place-self-via-else-place-self+then-place-end w ↦
      was ∙ sym (overlaid_behind file c.args.self.now.at c.args.self.now.bytes.items c.args.place (omega (arith, w.if-place-end.true, w.end.ensures)))
]

pub returns : goal.returns
returns c file was =
    let piece = c.args.self.now in
    get_or_read piece.bytes.items (c.args.place - piece.at) c.index.result.now (omega (arith, c.end.ensures)) c.index.ensures 0
    ∙ sym (overlaid_in file piece.at piece.bytes.items c.args.place c.if-place-self.false (omega (arith, c.end.ensures)))
