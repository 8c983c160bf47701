use Rattle.std.proofs.Common.{subst}
use Rattle.hx_object.specs.declared.object.Object.{Object}
use Rattle.hx_model.specs.declared.ask.Ask.TheVariants.{Replace}
use Rattle.hx_admit.specs.Inside.{IsRefusal, IsReplacement}
use Rattle.hx_admit.proofs.Reviewing.{passed_on, served_replacement, found_replacement}
use Rattle.hx_admit.proofs.requests.review_replace.Goals as goal

pub returns-in_err-next-clause-refused : goal.returns-in_err-next-clause-refused
returns-in_err-next-clause-refused c = passed_on (IsRefusal c.args.state.now.state (Replace c.args.object c.args.expected c.args.skip)) c.from_residual.result c.in_err-next.field-0.0 c.from_residual.ensures.1 c.in_err-next.ensures.refused

pub review_replacement-requires-clause-there : goal.review_replacement-requires-clause-there
review_replacement-requires-clause-there c =
    let r = subst (λ (y : Object). IsReplacement c.args.state.now.state c.args.object y c.args.expected c.args.skip c.in_ok-next.next) c.object.ensures c.in_ok-next.ensures.gives in
    found_replacement c.args.state.now.state c.args.object _ _ c.args.expected c.args.skip r

pub review_replacement-requires-clause-served : goal.review_replacement-requires-clause-served
review_replacement-requires-clause-served c = served_replacement c.args.state.now.state c.args.object _ _ c.args.expected c.args.skip c.in_ok-next.ensures.gives

pub returns-clause-refused : goal.returns-clause-refused
returns-clause-refused c =
    let r = subst (λ (y : Object). IsReplacement c.args.state.now.state c.args.object y c.args.expected c.args.skip c.in_ok-next.next) c.object.ensures c.in_ok-next.ensures.gives in
    c.review_replacement.ensures.refused c.args.object c.args.expected c.args.skip r

pub returns-clause-passes : goal.returns-clause-passes
returns-clause-passes c =
    let r = subst (λ (y : Object). IsReplacement c.args.state.now.state c.args.object y c.args.expected c.args.skip c.in_ok-next.next) c.object.ensures c.in_ok-next.ensures.gives in
    c.review_replacement.ensures.passes c.args.object c.args.expected c.args.skip r

pub returns-clause-may : goal.returns-clause-may
returns-clause-may c =
    let r = subst (λ (y : Object). IsReplacement c.args.state.now.state c.args.object y c.args.expected c.args.skip c.in_ok-next.next) c.object.ensures c.in_ok-next.ensures.gives in
    c.review_replacement.ensures.may c.args.object c.args.expected c.args.skip r
