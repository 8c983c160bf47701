use Rattle.hx_audit.proofs.Auditing.{one_at_most}
use Rattle.hx_audit.proofs.law.law_of_first.Goals as goal

pub returns-clause-one : goal.returns-clause-one
returns-clause-one c = one_at_most
