use Rattle.std.proofs.Common.{◌≡◌, Some, length}
use Rattle.hx_survey.specs.Seams.{least_on}
use Rattle.hx_survey.proofs.seams.least_from.Given as goal

-- what is left of the walk gives what the whole one does
abbrev pub invariant-loop-left : goal.invariant-loop-left
invariant-loop-left l = least_on l.left l.ups l.at l.least ≡ least_on (length l.ups) l.ups (Some l.first) l.first

abbrev pub decreases-loop-left : goal.decreases-loop-left
decreases-loop-left l = l.left
