use Rattle.std.proofs.Common.{◌+◌, Option, sym, subst}
use Rattle.hx_object.specs.declared.object.Object.{Object}
use Rattle.hx_model.specs.State.{with_version}
use Rattle.hx_model.specs.Writes.{HasPlace}
use Rattle.hx_model.specs.declared.key.Write.TheVariants.{Put}
use Rattle.hx_admit.proofs.Reviewing.{passes_create, may_one, may_put, given_stays}
use Rattle.hx_admit.proofs.requests.review_create.Goals as goal

pub returns-in-Err-clause-refused : goal.returns-in-Err-clause-refused
returns-in-Err-clause-refused c = c.in-Err.ensures.refused

pub returns-clause-passes : goal.returns-clause-passes
returns-clause-passes c =
    passes_create c.args.state.now.state c.args.object c.args.skip _ _ c.requires.served c.in_default.ensures.passes.passes c.in_ok-put.ensures

pub returns-clause-may : goal.returns-clause-may
returns-clause-may c =
    let creation = c.in_default.ensures.passes in
    let may = may_put c.args.state.now.state c.args.object c.requires.served creation.home (λ _. subst (λ (o : Option Object). HasPlace o c.args.object) (sym creation.free) (given_stays c.args.object.payload c.requires.given)) in
    may_one c.args.state.now.state (Put (with_version c.args.object (c.args.state.now.state.last + 1))) _ may creation.fits c.in_ok-put.ensures.writing
