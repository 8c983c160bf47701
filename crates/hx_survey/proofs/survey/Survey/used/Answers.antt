use Rattle.std.proofs.Common.{◌≡◌, ◌∙◌, IfOk, ap, sum_by, subst}
use Rattle.hx_model.specs.Forest.{Forest}
use Rattle.hx_model.specs.Quotas.{charge_below}
use Rattle.hx_survey.specs.Surveyed.{used_in}
use Rattle.hx_survey.proofs.survey.Survey.used.Goals as goal

pub returns-in-Some : goal.returns-in-Some
unfolding used_in
returns-in-Some c =
    rw (← c.self.view_is)
    (c.in-Some.ensures ∙ ap (λ (f : Forest). sum_by (charge_below f c.args.ns.now c.args.resource) c.self.inside.objects.now) c.self.invariant.tree_is)

pub returns-in-None : goal.returns-in-None
unfolding used_in
returns-in-None c =
    rw (← c.self.view_is)
    (subst (λ (f : Forest). IfOk c.used_below.result (λ sum. sum ≡ sum_by (charge_below f c.args.ns.now c.args.resource) c.self.inside.objects.now)) c.self.invariant.tree_is c.used_below.ensures)
