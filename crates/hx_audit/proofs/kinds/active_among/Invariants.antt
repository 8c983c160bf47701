use Rattle.std.proofs.Common.{◌≡◌, ◌++◌, drop, filter}
use Rattle.hx_audit.specs.Candidates.{is_active}
use Rattle.hx_audit.proofs.kinds.active_among.Given as goal

-- those so far, and those of the rest
abbrev pub invariant-loop-kind : goal.invariant-loop-kind
invariant-loop-kind l = l.active.items ++ filter (is_active l.survey.objects) (drop l.kind-index l.kinds) ≡ filter (is_active l.survey.objects) l.kinds
