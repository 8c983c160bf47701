use Rattle.std.proofs.Common.{length}
use Rattle.hx_survey.specs.Sums.{IsPlacing}
use Rattle.hx_survey.proofs.order.put_line.Given as goal

-- what is placed stands in order
abbrev pub invariant-loop-place : goal.invariant-loop-place
invariant-loop-place l = IsPlacing l.ups l.places.items l.placed.items

abbrev pub decreases-loop-place : goal.decreases-loop-place
decreases-loop-place l = length l.line.items
