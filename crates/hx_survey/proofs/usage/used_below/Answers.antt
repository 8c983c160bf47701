use Rattle.std.proofs.Common.{◌≡◌, ◌∙◌, ℕ, IfOk, ap, sum_by, subst}
use Rattle.hx_survey.specs.Inside.{charge_in}
use Rattle.hx_survey.proofs.Charged.{used_by_names}
use Rattle.hx_survey.proofs.usage.used_below.Goals as goal

pub returns : goal.returns
returns c =
    let objects = c.args.objects.now in
    let all = used_by_names c.args.resource c.args.tree.now c.args.ns.now objects c.subtree.ensures.order in
    subst (λ (k : ℕ). IfOk c.charge_in_all.result (λ sum. sum ≡ k)) (ap (sum_by (charge_in objects c.args.resource)) (c.deref.ensures.value ∙ c.in_ok-names.ensures.names) ∙ all) c.charge_in_all.ensures
