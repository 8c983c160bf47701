use Rattle.hx_survey.specs.Sums.{IsPlacing}
use Rattle.hx_survey.proofs.order.bottom_up.Given as goal

-- what is placed stands in order
abbrev pub invariant-loop-first : goal.invariant-loop-first
invariant-loop-first l = IsPlacing l.ups l.places.items l.placed.items
