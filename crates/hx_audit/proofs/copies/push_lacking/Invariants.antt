use Rattle.std.proofs.Common.{◌≡◌, ◌++◌, drop, flat_map}
use Rattle.hx_audit.specs.Candidates.{lacking_keys}
use Rattle.hx_audit.proofs.copies.push_lacking.Given as goal

-- the keys so far, and those of the rest of the sources
abbrev pub invariant-loop-object : goal.invariant-loop-object
invariant-loop-object l = l.wanting.items ++ flat_map (lacking_keys l.survey.objects l.mode l.member.namespace.now l.member.above.now l.member.name.now l.kind) (drop l.object-index l.objects) ≡ l.initial.wanting.items ++ flat_map (lacking_keys l.survey.objects l.mode l.member.namespace.now l.member.above.now l.member.name.now l.kind) l.objects
