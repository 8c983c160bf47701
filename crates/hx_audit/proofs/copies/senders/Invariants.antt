use Rattle.std.proofs.Common.{◌≡◌, ◌++◌, drop}
use Rattle.hx_audit.specs.Candidates.{senders}
use Rattle.hx_audit.proofs.copies.senders.Given as goal

-- those so far, and those of the rest
abbrev pub invariant-loop-name : goal.invariant-loop-name
invariant-loop-name l = l.found.items ++ senders l.survey.objects l.kind (drop l.name-index l.names) ≡ senders l.survey.objects l.kind l.names
