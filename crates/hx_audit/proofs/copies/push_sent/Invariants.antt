use Rattle.std.proofs.Common.{◌≡◌, ◌++◌, drop, flat_map}
use Rattle.hx_audit.specs.Candidates.{sent_keys}
use Rattle.hx_audit.proofs.copies.push_sent.Given as goal

-- the keys so far, and those of what the rest of the namespaces sends
abbrev pub invariant-loop-ancestor : goal.invariant-loop-ancestor
invariant-loop-ancestor l = l.wanting.items ++ flat_map (sent_keys l.survey.objects l.mode l.member.namespace.now l.member.above.now l.member.name.now l.kind) (drop l.ancestor-index l.member.above.now) ≡ l.initial.wanting.items ++ flat_map (sent_keys l.survey.objects l.mode l.member.namespace.now l.member.above.now l.member.name.now l.kind) l.member.above.now
