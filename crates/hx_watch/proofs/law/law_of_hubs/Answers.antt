use Rattle.hx_watch.proofs.Following.{follow-nothing, follow-in-parts}
use Rattle.hx_watch.proofs.law.law_of_hubs.Goals as goal

pub returns-clause-none : goal.returns-clause-none
returns-clause-none c = follow-nothing

pub returns-clause-parts : goal.returns-clause-parts
returns-clause-parts c = follow-in-parts
