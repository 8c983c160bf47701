use Rattle.hx_survey.specs.Seams.{seam_at}
use Rattle.hx_survey.proofs.Seaming.{noted_more}
use Rattle.hx_survey.proofs.seams.seams_of.Goals as goal

pub loop-place-preserved : goal.loop-place-preserved
loop-place-preserved c = noted_more (seam_at c.args.ups.now) c.loop-place.seams.items _ c.seam_at.result c.loop-place.place c.loop-place.invariant c.in_ok-push.ensures.items c.seam_at.ensures
