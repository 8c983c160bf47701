use Rattle.std.proofs.Common.{◌≡◌, ◌++◌, drop, flat_map}
use Rattle.hx_audit.specs.Candidates.{kind_keys}
use Rattle.hx_audit.proofs.copies.push_kinds.Given as goal

-- the keys so far, and those of the rest of the kinds
abbrev pub invariant-loop-kind : goal.invariant-loop-kind
invariant-loop-kind l = l.wanting.items ++ flat_map (kind_keys l.survey.objects l.member.namespace.now l.member.above.now l.member.name.now) (drop l.kind-index l.kinds) ≡ l.initial.wanting.items ++ flat_map (kind_keys l.survey.objects l.member.namespace.now l.member.above.now l.member.name.now) l.kinds
