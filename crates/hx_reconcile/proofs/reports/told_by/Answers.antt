use Rattle.std.proofs.Common.{rules, ◌≡◌, true≢false, sym, ◌∙◌}
use Rattle.hx_model.specs.Tree.{spec_parent}
use Rattle.hx_reconcile.proofs.Placing.{report_stands, report_differs}
use Rattle.hx_reconcile.proofs.reports.told_by.Goals as goal

pub returns-then-tells : goal.returns-then-tells
returns-then-tells c = λ ns. report_stands c.args.children.now c.args.conditions.now c.args.hierarchy.now ns (c.tells.ensures.0 c.if-tells.true)

pub returns : goal.returns
returns c =
    let id = c.in_ok-clone.ensures.cases in
    let parent : c.in_ok-copied.field-0 ≡ spec_parent c.args.hierarchy.now.payload = search rules in
    let children : c.in_ok-clone-4.field-0 ≡ c.args.children.now = search rules in
    let conditions : c.in_ok-clone-5.field-0 ≡ c.args.conditions.now = search rules in
    λ ns.
    report_differs c.args.children.now c.in_ok-clone-4.field-0 c.args.conditions.now c.in_ok-clone-5.field-0 c.in_ok-copied.field-0 c.allows_cascade.result c.args.hierarchy.now ns
    c.in_ok-clone.field-0 c.in_ok-clone-2.field-0 c.in_ok-clone-3.field-0
    (λ i. record { kind = id.0 i; ns = id.1.0 i; name = id.1.1 i }) c.in_ok-clone-2.ensures.cases c.in_ok-clone-3.ensures.cases
    parent c.allows_cascade.ensures children conditions
    (λ e. true≢false (sym (c.tells.ensures.1 e) ∙ c.if-tells.false))
