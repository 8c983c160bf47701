use Rattle.std.proofs.Common.{◌≡◌, ◌++◌, drop, map}
use Rattle.hx_survey.specs.Inside.{place_at, ups_of}
use Rattle.hx_survey.proofs.building.ups_of.Given as goal

-- those so far, and those of the rest
abbrev pub invariant-loop-entry : goal.invariant-loop-entry
invariant-loop-entry l = l.ups.items ++ map (λ e. place_at l.nodes (e.1).parent) (drop l.entry-index l.nodes) ≡ ups_of l.nodes
