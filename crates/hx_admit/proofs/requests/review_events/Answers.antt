use Rattle.std.proofs.Common.{◌∙◌}
use Rattle.hx_model.specs.declared.ask.Answer.TheVariants.{Events as Happened}
use Rattle.hx_admit.proofs.Reviewing.{passes_events, since_legal}
use Rattle.hx_admit.proofs.requests.review_events.Goals as goal

pub returns-clause-passes : goal.returns-clause-passes
returns-clause-passes c =
    let s = c.args.state.now.state in
    passes_events s c.args.since _ _ c.in_ok-events.ensures.there (since_legal s c.law_of_validity.ensures c.args.since) c.unchanged.ensures.writing
    (c.unchanged.ensures.answers ∙ (λ i. Happened (c.in_ok-events.ensures.events i) (c.version.ensures i)))
