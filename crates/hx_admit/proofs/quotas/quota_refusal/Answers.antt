use Rattle.std.proofs.Common.{◌∙◌, sym}
use Rattle.std.specs.Prelude.{option_copied}
use Rattle.hx_admit.proofs.Spending.{unrefused}
use Rattle.hx_admit.proofs.quotas.quota_refusal.Goals as goal

pub returns-then-not-may_refuse : goal.returns-then-not-may_refuse
returns-then-not-may_refuse c = sym (unrefused c.args.state.now.state (option_copied c.args.old) c.args.new.now (sym c.may_refuse.ensures ∙ c.if-not-may_refuse.true))
