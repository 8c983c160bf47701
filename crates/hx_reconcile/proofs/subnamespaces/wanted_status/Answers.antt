use Rattle.std.proofs.Common.{true≢false, sym, ◌∙◌}
use Rattle.hx_reconcile.proofs.Placing.{status_stands, status_differs}
use Rattle.hx_reconcile.proofs.subnamespaces.wanted_status.Goals as goal

pub returns-then-has_status : goal.returns-then-has_status
returns-then-has_status c = status_stands c.args.status c.args.anchor.now (c.has_status.ensures.0 c.if-has_status.true)

pub returns : goal.returns
returns c =
    let id = c.in_ok-clone.ensures.cases in
    status_differs c.args.status c.args.anchor.now c.in_ok-clone.field-0 c.in_ok-clone-2.field-0 c.in_ok-clone-3.field-0
    (λ i. record { kind = id.0 i; ns = id.1.0 i; name = id.1.1 i }) c.in_ok-clone-2.ensures.cases c.in_ok-clone-3.ensures.cases
    (λ e. true≢false (sym (c.has_status.ensures.1 e) ∙ c.if-has_status.false))
