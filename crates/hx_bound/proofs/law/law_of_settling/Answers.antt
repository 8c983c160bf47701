use Rattle.hx_bound.proofs.Turning.{turns_go_on}
use Rattle.hx_bound.proofs.WithinBound.{settles_within}
use Rattle.hx_bound.proofs.law.law_of_settling.Goals as goal

pub returns-clause-bound : goal.returns-clause-bound
returns-clause-bound c = settles_within

pub returns-clause-goes_on : goal.returns-clause-goes_on
returns-clause-goes_on c = turns_go_on
