use Rattle.std.proofs.Common.{sym}
use Rattle.hx_quantity.proofs.Numbers.{joined}
use Rattle.hx_quantity.proofs.quantity.number_of.Goals as goal

pub returns : goal.returns
returns c = rw (c.value_of-whole.ensures.value, c.pow.ensures, c.value_of.ensures.value) (sym (joined c.args.parts.whole.now c.args.parts.fraction.now))
