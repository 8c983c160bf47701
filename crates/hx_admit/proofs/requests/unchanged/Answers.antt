use Rattle.hx_admit.proofs.Reviewing.{may_none}
use Rattle.hx_admit.proofs.requests.unchanged.Goals as goal

pub returns-clause-may : goal.returns-clause-may
returns-clause-may c = may_none c.args.state.now.state _ c.new.ensures.items
