use Rattle.std.proofs.Common.{◌≡◌, ◌++◌, drop}
use Rattle.hx_audit.specs.Candidates.{nearest_first}
use Rattle.hx_audit.proofs.copies.push_sources.Given as goal

-- the sources so far, and those of the rest of the namespaces
abbrev pub invariant-loop-ancestor : goal.invariant-loop-ancestor
invariant-loop-ancestor l = l.sources.items ++ nearest_first l.survey.objects l.kind l.name (drop l.ancestor-index l.above) ≡ l.initial.sources.items ++ nearest_first l.survey.objects l.kind l.name l.above
