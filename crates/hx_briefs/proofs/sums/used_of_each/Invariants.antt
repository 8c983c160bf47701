use Rattle.std.proofs.Common.{◌≡◌, ◌++◌, drop, map}
use Rattle.hx_model.specs.Wanted.{used_of}
use Rattle.hx_briefs.proofs.sums.used_of_each.Given as goal

-- the sums so far, and those of the rest of the limits
abbrev pub invariant-loop-limit : goal.invariant-loop-limit
invariant-loop-limit l = l.sums.items ++ map (used_of l.state.state l.ns) (drop l.limit-index l.hard) ≡ map (used_of l.state.state l.ns) l.hard
