use Rattle.hx_survey.specs.Seams.{IsNoted, seam_at}
use Rattle.hx_survey.proofs.seams.seams_of.Given as goal

-- those so far are noted
abbrev pub invariant-loop-place : goal.invariant-loop-place
invariant-loop-place l = IsNoted (seam_at l.ups) l.seams.items l.place
