use Rattle.std.proofs.Common.{sym, ap, ◌∙◌}
use Rattle.hx_model.specs.Propagation.{is_propagated}
use Rattle.hx_marks.proofs.Adding.{none_sent, nothing}
use Rattle.hx_marks.proofs.wants.sent_from.Goals as goal

pub returns-then-not-is_propagated : goal.returns-then-not-is_propagated
returns-then-not-is_propagated c =
    nothing c.args.objects.now.items _ (none_sent c.args.store.now.objects c.args.kind c.args.names.now (sym (ap is_propagated c.mode_at-mode.ensures) ∙ sym c.is_propagated.ensures ∙ c.if-not-is_propagated.true))
