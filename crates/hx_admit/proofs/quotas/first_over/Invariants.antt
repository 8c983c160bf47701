use Rattle.std.proofs.Common.{◌≡◌, drop}
use Rattle.std.specs.Prelude.{option_copied}
use Rattle.hx_model.specs.Quotas.{first_over}
use Rattle.hx_admit.proofs.quotas.first_over.Given as goal

-- those that are left tell what all do
abbrev pub invariant-loop-quota : goal.invariant-loop-quota
invariant-loop-quota l = first_over l.state.state (option_copied l.old) l.new (drop l.quota-index l.quotas) ≡ first_over l.state.state (option_copied l.old) l.new l.quotas
