use Rattle.std.proofs.Common.{◌≡◌, ◌++◌, drop, map}
use Rattle.std.specs.Prelude.{filter, option_copied}
use Rattle.hx_marks.specs.Usage.{counts_change, usage_key}
use Rattle.hx_marks.proofs.usage.push_charged.Given as goal

-- the marks so far, and those of the rest
abbrev pub invariant-loop-quota : goal.invariant-loop-quota
invariant-loop-quota l = l.keys.items ++ map usage_key (filter (counts_change (option_copied l.old) (option_copied l.new)) (drop l.quota-index l.quotas)) ≡ l.initial.keys.items ++ map usage_key (filter (counts_change (option_copied l.old) (option_copied l.new)) l.quotas)
