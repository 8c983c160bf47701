use Rattle.std.proofs.Common.{◌∙◌, sym}
use Rattle.hx_overlay.proofs.ByteByByte.{padded_below, padded_behind}
use Rattle.hx_overlay.proofs.change.cut_byte.Goals as goal

pub returns-then-place-len-clause-cut : goal.returns-then-place-len-clause-cut
returns-then-place-len-clause-cut c file was = was ∙ sym (padded_below file c.args.len c.args.place c.if-place-len.true)

pub returns-else-place-len-clause-cut : goal.returns-else-place-len-clause-cut
returns-else-place-len-clause-cut c file was = sym (padded_behind file c.args.len c.args.place c.if-place-len.false)
