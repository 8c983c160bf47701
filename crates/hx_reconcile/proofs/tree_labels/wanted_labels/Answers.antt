use Rattle.std.proofs.Common.{sym, ◌∙◌, true≢false}
use Rattle.hx_reconcile.proofs.Placing.{labels_stand, labels_differ}
use Rattle.hx_reconcile.proofs.tree_labels.wanted_labels.Goals as goal

pub returns-then-is_same-clause-write : goal.returns-then-is_same-clause-write
returns-then-is_same-clause-write c = labels_stand c.args.chain.now c.args.namespace.now c.in_ok-labels.labels c.in_ok-labels.ensures (c.is_same.ensures.0 c.if-is_same.true)

pub returns-clause-write : goal.returns-clause-write
returns-clause-write c =
    let id = c.in_ok-clone.ensures.cases in
    labels_differ c.args.chain.now c.args.namespace.now c.in_ok-clone.field-0 c.in_ok-labels.labels c.in_ok-clone-2.field-0 c.in_ok-copy.field-0
    (λ i. record { kind = id.0 i; ns = id.1.0 i; name = id.1.1 i })
    c.in_ok-labels.ensures c.in_ok-clone-2.ensures.cases c.in_ok-copy.ensures
    (λ e. true≢false (sym (c.is_same.ensures.1 e) ∙ c.if-is_same.false))
