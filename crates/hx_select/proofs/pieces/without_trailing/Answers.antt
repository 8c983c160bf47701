use Rattle.std.proofs.Common.{◌∙◌, sym}
use Rattle.hx_select.proofs.Stripping.{trails-none}
use Rattle.hx_select.proofs.pieces.without_trailing.Goals as goal

pub returns : goal.returns
unfolding lib.Utf8.encode
returns c = sym (trails-none c.loop-front.left.now c.in_default.ensures.cases) ∙ c.loop-front.invariant.same
