use Rattle.std.proofs.Common.{◌≡◌, ◌++◌, drop, flat_map}
use Rattle.hx_audit.specs.Candidates.{quota_keys}
use Rattle.hx_audit.proofs.quotas.push_each.Given as goal

-- the keys so far, and those of the rest of the quotas
abbrev pub invariant-loop-quota : goal.invariant-loop-quota
invariant-loop-quota l = l.wanting.items ++ flat_map (quota_keys l.survey l.ns) (drop l.quota-index l.quotas) ≡ l.initial.wanting.items ++ flat_map (quota_keys l.survey l.ns) l.quotas
