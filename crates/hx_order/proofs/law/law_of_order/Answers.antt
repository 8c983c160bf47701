use Rattle.hx_order.proofs.Ordered.{key_cmp_total, key_cmp-IsAntisymmetric}
use Rattle.hx_order.proofs.Ranked.{turns_in_order}
use Rattle.hx_order.proofs.law.law_of_order.Goals as goal

pub returns-clause-total : goal.returns-clause-total
returns-clause-total c = key_cmp_total

pub returns-clause-exact : goal.returns-clause-exact
returns-clause-exact c = key_cmp-IsAntisymmetric

pub returns-clause-turns : goal.returns-clause-turns
returns-clause-turns c = turns_in_order
