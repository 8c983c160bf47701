use Rattle.hx_survey.specs.Seams.{IsNoted, cut_at}
use Rattle.hx_survey.proofs.seams.cuts_of.Given as goal

-- those so far are noted
abbrev pub invariant-loop-place : goal.invariant-loop-place
invariant-loop-place l = IsNoted (cut_at l.ups l.seams) l.cuts.items l.place
