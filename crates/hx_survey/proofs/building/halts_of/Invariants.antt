use Rattle.std.proofs.Common.{◌≡◌, ◌++◌, drop, map}
use Rattle.hx_model.specs.Forest.{own_halt_of}
use Rattle.hx_survey.specs.Inside.{halts_of}
use Rattle.hx_survey.proofs.building.halts_of.Given as goal

-- those so far, and those of the rest
abbrev pub invariant-loop-entry : goal.invariant-loop-entry
invariant-loop-entry l = l.halts.items ++ map (λ e. own_halt_of l.nodes e.0) (drop l.entry-index l.nodes) ≡ halts_of l.nodes
