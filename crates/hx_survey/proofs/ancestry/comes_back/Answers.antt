use Rattle.std.proofs.Common.{◌∙◌, sym}
use Rattle.hx_survey.proofs.Walked.{comes_back_by, no_cycle}
use Rattle.hx_survey.proofs.ancestry.comes_back.Goals as goal

pub returns-in-Some : goal.returns-in-Some
returns-in-Some c = c.passes.ensures ∙ comes_back_by c.args.nodes.now c.args.ups.now c.requires.ups c.args.name.now c.up_from.result c.in-Some.place c.up_from.ensures (sym c.place_of.ensures ∙ c.in-Some.is)

pub returns-in-None : goal.returns-in-None
returns-in-None c = no_cycle c.args.nodes.now c.args.name.now (sym c.place_of.ensures ∙ c.in-None.is)
