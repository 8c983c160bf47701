use Rattle.std.proofs.Common.{◌≡◌, IfOk, List, subst}
use Rattle.hx_object.specs.declared.object.Object.{Object}
use Rattle.hx_survey.specs.Inside.{charge_of_all}
use Rattle.hx_survey.proofs.usage.charge_in.Goals as goal

pub returns : goal.returns
returns c = subst (λ (objects : List Object). IfOk c.charge_of_all.result (λ sum. sum ≡ charge_of_all objects c.args.resource)) c.charged_in-charged.ensures c.charge_of_all.ensures
