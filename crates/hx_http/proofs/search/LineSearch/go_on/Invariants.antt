use Rattle.std.proofs.Common.{length, ◌-◌}
use Rattle.hx_http.specs.Searches.{AreSearched}
use Rattle.hx_http.proofs.search.LineSearch.go_on.Given as goal

abbrev pub invariant-loop-end : goal.invariant-loop-end
invariant-loop-end l = AreSearched l.bytes l.self

abbrev pub decreases-loop-end : goal.decreases-loop-end
decreases-loop-end l = length l.bytes - l.self.at
