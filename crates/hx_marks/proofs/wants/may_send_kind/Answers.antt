use Rattle.std.proofs.Common.{sym, ap, ◌∙◌}
use Rattle.hx_model.specs.Propagation.{is_propagated}
use Rattle.hx_marks.proofs.Adding.{none_held, none_sent}
use Rattle.hx_marks.proofs.wants.may_send_kind.Goals as goal

pub returns-then-may_have : goal.returns-then-may_have
returns-then-may_have c = λ out names. none_sent c.args.store.now.objects c.args.kind names (sym (ap is_propagated c.mode_at.ensures) ∙ sym c.is_propagated.ensures ∙ out)

pub returns-else-may_have : goal.returns-else-may_have
returns-else-may_have c = λ _ names. none_held c.args.store.now.objects c.args.kind names (c.may_have.ensures c.if-may_have.false)
