use Rattle.hx_model.proofs.NextParents.{put_tells, cut_tells}
use Rattle.hx_model.proofs.law.law_of_parents.Goals as goal

pub returns-clause-put : goal.returns-clause-put
returns-clause-put c = put_tells

pub returns-clause-cut : goal.returns-clause-cut
returns-clause-cut c = cut_tells
