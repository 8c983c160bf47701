use Rattle.std.proofs.Common.{◌≡◌, ◌++◌, map}
use Rattle.std.specs.Prelude.{filter, flat_map, option_copied}
use Rattle.hx_model.specs.Quotas.{quotas_in}
use Rattle.hx_marks.specs.Usage.{counts_change, usage_key}
use Rattle.hx_marks.proofs.usage.charged_along.Given as goal

-- the marks so far, and those of what is left of the chain
abbrev pub invariant-loop-member : goal.invariant-loop-member
invariant-loop-member l = l.keys.items ++ map usage_key (filter (counts_change (option_copied l.old) (option_copied l.new)) (flat_map (quotas_in l.store.objects) l.member-iterator)) ≡ l.initial.keys.items ++ map usage_key (filter (counts_change (option_copied l.old) (option_copied l.new)) (flat_map (quotas_in l.store.objects) l.fn.members))
