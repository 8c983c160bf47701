use Rattle.std.proofs.Common.{◌∙◌, sym}
use Rattle.hx_quantity.proofs.Digits.{length-is, place-is}
use Rattle.hx_quantity.proofs.parts.digits_len.Goals as goal

pub returns-in-None-clause-len : goal.returns-in-None-clause-len
returns-in-None-clause-len c = length-is c.args.text.now (sym c.first_other.ensures ∙ c.in-None.is)

pub returns-in-Some-clause-len : goal.returns-in-Some-clause-len
returns-in-Some-clause-len c = place-is c.args.text.now c.in-Some.len (sym c.first_other.ensures ∙ c.in-Some.is)
