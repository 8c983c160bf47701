use Rattle.hx_model.proofs.InOrder.{requests_tell_in_order, turns_tell_once}
use Rattle.hx_model.proofs.law.law_of_events.Goals as goal

pub returns-clause-requests : goal.returns-clause-requests
returns-clause-requests c = requests_tell_in_order

pub returns-clause-turns : goal.returns-clause-turns
returns-clause-turns c = turns_tell_once
