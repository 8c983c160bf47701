use Rattle.std.proofs.Common.{◌≡◌, drop}
use Rattle.std.specs.Prelude.{option_copied}
use Rattle.hx_model.specs.First.{first_of}
use Rattle.hx_model.specs.Quotas.{over_limit}
use Rattle.hx_admit.proofs.quotas.over_quota.Given as goal

-- those that are left tell what all do
abbrev pub invariant-loop-limit : goal.invariant-loop-limit
invariant-loop-limit l = first_of (over_limit l.state.state (option_copied l.old) l.new l.quota) (drop l.limit-index l.hard) ≡ first_of (over_limit l.state.state (option_copied l.old) l.new l.quota) l.hard
