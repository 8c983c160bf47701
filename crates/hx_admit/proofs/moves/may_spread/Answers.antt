use Rattle.std.proofs.Common.{sym, ap, ◌∙◌}
use Rattle.hx_model.specs.Propagation.{is_propagated}
use Rattle.hx_admit.proofs.Moved.{no_mode}
use Rattle.hx_admit.proofs.moves.may_spread.Goals as goal

pub returns-then-may_have : goal.returns-then-may_have
returns-then-may_have c = λ out n after before. sym (no_mode c.args.store.now.objects n after before c.args.kind (sym (ap is_propagated c.mode_at.ensures) ∙ sym c.is_propagated.ensures ∙ out))
