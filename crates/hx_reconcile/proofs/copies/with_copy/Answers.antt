use Rattle.std.proofs.Common.{rules}
use Rattle.hx_reconcile.proofs.Placing.{put_copy}
use Rattle.hx_reconcile.proofs.copies.with_copy.Goals as goal

pub returns : goal.returns
returns c =
    put_copy c.args.source.now c.args.name.now c.args.place.now
    (record { kind = c.args.source.now.id.kind; ns = c.in_ok-clone.field-0; name = c.in_ok-clone-2.field-0 }) c.in_ok-labels.labels c.in_ok-annotations.annotations c.in_ok-copy.field-0
    (λ i. record { kind = c.args.source.now.id.kind; ns = c.in_ok-clone.ensures.cases i; name = c.in_ok-clone-2.ensures.cases i })
    c.in_ok-labels.ensures c.in_ok-annotations.ensures c.in_ok-copy.ensures
    (let h = c.if-is_placed.ensures in let e = c.is_placed.ensures in search rules)
