use Rattle.hx_admit.proofs.Reviewing.{passes_document}
use Rattle.hx_admit.proofs.requests.review_document.Goals as goal

pub returns-clause-passes : goal.returns-clause-passes
returns-clause-passes c = passes_document c.args.state.now.state c.args.document _ _ c.unchanged.ensures.writing c.unchanged.ensures.answers
