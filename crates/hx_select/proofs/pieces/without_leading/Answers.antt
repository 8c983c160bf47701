use Rattle.std.proofs.Common.{◌∙◌, sym}
use Rattle.hx_select.proofs.Stripping.{leads-none}
use Rattle.hx_select.proofs.pieces.without_leading.Goals as goal

pub returns : goal.returns
unfolding lib.Utf8.encode
returns c = sym (leads-none c.loop-rest.left.now c.in_default.ensures.cases) ∙ c.loop-rest.invariant.same
