use Rattle.std.proofs.Common.{◌≡◌, Bool, sym, ◌∙◌, subst}
use Rattle.std.specs.Prelude.{IfOk}
use Rattle.hx_model.specs.Moves.{labels_in}
use Rattle.hx_model.specs.TreeLabels.{prescribed_labels}
use Rattle.hx_admit.proofs.Moved.{unlooked}
use Rattle.hx_admit.proofs.moves.goes_along.Goals as goal

pub returns : goal.returns
returns c =
    subst (λ (b : Bool). IfOk c.goes_to-2.result (λ goes. goes ≡ b))
    (unlooked c.args.mode c.args.source.now _ (prescribed_labels c.args.chain.now (labels_in c.args.store.now.objects c.args.name.now)) (sym c.looks_at_labels.ensures ∙ c.if-looks_at_labels.false))
    c.goes_to-2.ensures
