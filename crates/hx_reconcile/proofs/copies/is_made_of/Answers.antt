use Rattle.std.proofs.Common.{◌≡◌, true, sym, ◌∙◌, true≢false}
use Rattle.hx_reconcile.proofs.Placing.{made_of, made_otherwise}
use Rattle.hx_reconcile.proofs.copies.is_made_of.Goals as goal
use Rattle.hx_reconcile.proofs.copies.is_made_of.Goals.{then-is_same, else-is_same, then-is_same-2, else-is_same-2}

pub returns-then-is_same-3 : goal.returns-then-is_same-3
returns-then-is_same-3 c =
    elim c.if-is_same-2.branch [
      | then-is_same-2 w ↦ elim c.if-is_same.branch [
        | then-is_same u ↦
            made_of c.args.old.now c.args.id.now c.args.labels.now c.args.annotations.now c.args.payload.now _ (c.is_same.ensures.0 u.if-is_same.true)
            (u.is_same-then-is_same.ensures.0 (sym u.value-is ∙ w.if-is_same-2.true))
            (w.is_same-then-is_same-2.ensures.0 (sym w.value-is ∙ c.if-is_same-3.true))
            c.is_same-then-is_same-3.ensures
        | else-is_same u ↦ absurd (true≢false (sym w.if-is_same-2.true ∙ (u.value-is ∙ u.if-is_same.false)))
      ]
      | else-is_same-2 w ↦ absurd (true≢false (sym c.if-is_same-3.true ∙ (w.value-is ∙ w.if-is_same-2.false)))
    ]

pub returns-else-is_same-3 : goal.returns-else-is_same-3
returns-else-is_same-3 c =
    c.if-is_same-3.false
    ∙ made_otherwise c.args.old.now c.args.id.now c.args.labels.now c.args.annotations.now c.args.payload.now (λ p q r.
    let first : c.if-is_same.value ≡ true = elim c.if-is_same.branch [
      | then-is_same u ↦ u.value-is ∙ u.is_same-then-is_same.ensures.1 q
      | else-is_same u ↦ absurd (true≢false (sym (c.is_same.ensures.1 p) ∙ u.if-is_same.false))
    ] in
    let second : c.if-is_same-2.value ≡ true = elim c.if-is_same-2.branch [
      | then-is_same-2 w ↦ w.value-is ∙ w.is_same-then-is_same-2.ensures.1 r
      | else-is_same-2 w ↦ absurd (true≢false (sym first ∙ w.if-is_same-2.false))
    ] in
    true≢false (sym second ∙ c.if-is_same-3.false))
