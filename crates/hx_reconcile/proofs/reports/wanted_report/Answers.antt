use Rattle.std.proofs.Common.{ap, sym, ◌∙◌}
use Rattle.std.specs.Prelude.{Option, Some, true}
use Rattle.std.proofs.lemmas.Result.{IfOk-weaker}
use Rattle.hx_object.specs.declared.object.Object.{Object}
use Rattle.hx_model.specs.Reports.{report_write}
use Rattle.hx_reconcile.proofs.reports.wanted_report.Goals as goal

pub returns-in-Some : goal.returns-in-Some
returns-in-Some c =
    IfOk-weaker c.told_by.result _ _
    (λ write told. told c.args.ns.now ∙ ap (λ (found : Option Object). report_write true found c.args.children.now c.args.conditions.now c.args.ns.now) (ap (λ (x : Object). Some x) c.object.ensures ∙ sym c.in-Some.is)) c.told_by.ensures
