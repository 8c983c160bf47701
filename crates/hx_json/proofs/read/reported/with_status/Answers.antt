use Rattle.std.proofs.Common.{sym, subst}
use Rattle.hx_object.specs.Faults.{IsLegal}
use Rattle.hx_object.specs.declared.object.Payload.{Payload}
use Rattle.hx_model.specs.Serving.{IsKept}
use Rattle.hx_json.specs.Trees.{said}
use Rattle.hx_json.proofs.Statuses.{with_kept, with_legal}
use Rattle.hx_json.proofs.read.reported.with_status.Goals as goal

pub returns-clause-legal : goal.returns-clause-legal
returns-clause-legal c =
    let x = c.args.object in
    let d = said c.args.value.now in
    subst (λ (p : Payload). IsLegal (record x { payload = p }) × IsKept (record x { payload = p })) (sym c.in_ok-report.ensures) (with_legal d x c.requires.canonical c.requires.legal, with_kept d x c.requires.given)
