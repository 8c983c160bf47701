use Rattle.std.proofs.Common.{◌≡◌, Bool, sym, ◌∙◌, subst}
use Rattle.std.specs.Prelude.{IfOk}
use Rattle.hx_model.specs.Conflicts.{labels_at}
use Rattle.hx_admit.proofs.Moved.{unlooked}
use Rattle.hx_admit.proofs.conflicts.goes_at.Goals as goal

pub returns : goal.returns
returns c =
    subst (λ (b : Bool). IfOk c.goes_to-2.result (λ goes. goes ≡ b))
    (unlooked c.args.mode c.args.source.now _ (labels_at c.args.state.now.state c.args.ns.now) (sym c.looks_at_labels.ensures ∙ c.if-looks_at_labels.false))
    c.goes_to-2.ensures
