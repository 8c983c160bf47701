use Rattle.std.proofs.Common.{◌∙◌, sym}
use Rattle.hx_survey.proofs.Walked.{no_own_halt}
use Rattle.hx_survey.proofs.building.own_halt.Goals as goal

pub returns-in-None : goal.returns-in-None
returns-in-None c = no_own_halt c.args.nodes.now c.args.name.now (sym c.place_of.ensures ∙ c.in-None.is)
