use Rattle.std.proofs.Common.{◌∙◌, ap, sym, subst, Err}
use Rattle.hx_object.specs.declared.object.Object.{Object}
use Rattle.json.specs.Value.{value_view}
use Rattle.hx_json.specs.Rows.{Gives, with_status}
use Rattle.hx_json.specs.Trees.{said}
use Rattle.hx_json.proofs.Orders.{ordered_canonical, ordered_shallow}
use Rattle.hx_json.proofs.ReadBack.{faultless, fit_parts, told, treeless, unfit}
use Rattle.hx_json.proofs.read.row.read_body.Goals as goal

pub returns-in-Err-clause-back : goal.returns-in-Err-clause-back
returns-in-Err-clause-back c = λ x h.
    subst (λ f. Gives {A = Object} (Err f) x) (sym c.row_fault.ensures) (treeless c.args.id c.args.version c.args.text.now x h c.in-Err.fault c.in-Err.ensures.none)

pub returns-then-not-is_fit-clause-back : goal.returns-then-not-is_fit-clause-back
returns-then-not-is_fit-clause-back c = λ x h.
    unfit c.args.id c.args.version c.args.text.now x h (value_view c.in-Ok.value) c.in-Ok.ensures.ok (sym c.is_fit.ensures ∙ c.if-not-is_fit.true)

pub object_at-requires : goal.object_at-requires
object_at-requires c =
    let j = value_view c.in-Ok.value in
    let fit = fit_parts c.args.id.kind j (sym c.is_fit.ensures ∙ c.if-not-is_fit.false) in record {
      ordered = fit.0;
      canonical = ordered_canonical c.args.text.now c.args.id.kind j c.in-Ok.ensures.ok fit.0;
      shallow = ordered_shallow c.args.text.now c.args.id.kind j c.in-Ok.ensures.ok fit.0;
      home = c.requires.home;
      typed = fit.1;
      quantities = fit.2;
    }

pub with_status-requires-clause-canonical : goal.with_status-requires-clause-canonical
with_status-requires-clause-canonical c =
    let fit = fit_parts c.args.id.kind (value_view c.in-Ok.value) (sym c.is_fit.ensures ∙ c.if-not-is_fit.false) in
    ordered_canonical c.args.text.now c.args.id.kind (value_view c.in-Ok.value) c.in-Ok.ensures.ok fit.0

pub with_status-requires-clause-sorted : goal.with_status-requires-clause-sorted
with_status-requires-clause-sorted c = (fit_parts c.args.id.kind (value_view c.in-Ok.value) (sym c.is_fit.ensures ∙ c.if-not-is_fit.false)).3

pub returns-in-Ok-object_at-clause-back : goal.returns-in-Ok-object_at-clause-back
returns-in-Ok-object_at-clause-back c = λ x h.
    c.in_ok-with_status-in-Ok-object_at.ensures.object
    ∙ ap (with_status (said c.in-Ok.value)) c.in-Ok-object_at.ensures.object
    ∙ told c.args.id c.args.version c.args.text.now x h (value_view c.in-Ok.value) c.in-Ok.ensures.ok (fit_parts c.args.id.kind (value_view c.in-Ok.value) (sym c.is_fit.ensures ∙ c.if-not-is_fit.false)).0

pub returns-clause-back : goal.returns-clause-back
returns-clause-back c = λ x h.
    subst (λ f. Gives {A = Object} (Err f) x) (sym c.row_fault-in-Err-object_at.ensures)
    (faultless c.args.id c.args.version c.args.text.now x h (value_view c.in-Ok.value) c.in-Err-object_at.fault c.in-Ok.ensures.ok (fit_parts c.args.id.kind (value_view c.in-Ok.value) (sym c.is_fit.ensures ∙ c.if-not-is_fit.false)).0 c.in-Err-object_at.ensures.fault)
