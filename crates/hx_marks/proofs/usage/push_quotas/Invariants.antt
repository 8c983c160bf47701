use Rattle.std.proofs.Common.{◌≡◌, ◌++◌, drop, map}
use Rattle.hx_marks.specs.Usage.{usage_key}
use Rattle.hx_marks.proofs.usage.push_quotas.Given as goal

-- the marks so far, and those of the rest
abbrev pub invariant-loop-quota : goal.invariant-loop-quota
invariant-loop-quota l = l.keys.items ++ map usage_key (drop l.quota-index l.quotas) ≡ l.initial.keys.items ++ map usage_key l.quotas
