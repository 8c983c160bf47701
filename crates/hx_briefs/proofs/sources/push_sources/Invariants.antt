use Rattle.std.proofs.Common.{◌≡◌, ◌++◌}
use Rattle.hx_briefs.specs.Briefing.{nearest_first}
use Rattle.hx_briefs.proofs.sources.push_sources.Given as goal

abbrev pub invariant-loop-ancestor : goal.invariant-loop-ancestor
invariant-loop-ancestor l = l.sources.items ++ nearest_first l.state.state.objects l.kind l.name l.ancestor-iterator ≡ l.fn.sources.items ++ nearest_first l.fn.state.state.objects l.fn.kind l.fn.name l.fn.above
