use Rattle.std.proofs.Common.{◌≡◌, ◌++◌, drop, map}
use Rattle.hx_model.specs.Wanted.{used_of}
use Rattle.hx_audit.specs.Candidates.{state_of}
use Rattle.hx_audit.proofs.quotas.used_of_each.Given as goal

-- the sums so far, and those of the rest of the limits
abbrev pub invariant-loop-limit : goal.invariant-loop-limit
invariant-loop-limit l = l.sums.items ++ map (used_of (state_of l.survey) l.ns) (drop l.limit-index l.hard) ≡ map (used_of (state_of l.survey) l.ns) l.hard
