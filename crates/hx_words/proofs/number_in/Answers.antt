use Rattle.std.proofs.Common.{◌∙◌}
use Rattle.hx_words.proofs.Numbers.{no_number, read_number}
use Rattle.hx_words.proofs.number_in.Goals as goal

pub returns-in-Ok-clause-number : goal.returns-in-Ok-clause-number
returns-in-Ok-clause-number c = c.if_within.ensures.number ∙ read_number c.args.least c.args.most c.args.value.now c.in-Ok.number c.in-Ok.ensures.value.0

pub returns-in-Err-clause-number : goal.returns-in-Err-clause-number
returns-in-Err-clause-number c = no_number c.args.least c.args.most c.args.value.now c.in-Err.field-0 c.in-Err.ensures.value.0
