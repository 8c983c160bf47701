use Rattle.hx_quantity.proofs.PrintedBack.{printed-back}
use Rattle.hx_quantity.proofs.ReadBack.{read-back, too-long}
use Rattle.hx_quantity.proofs.laws.law_of_quantities.Goals as goal

pub returns-clause-read : goal.returns-clause-read
returns-clause-read c = read-back

pub returns-clause-too_long : goal.returns-clause-too_long
returns-clause-too_long c = too-long

pub returns-clause-printed : goal.returns-clause-printed
returns-clause-printed c = printed-back
