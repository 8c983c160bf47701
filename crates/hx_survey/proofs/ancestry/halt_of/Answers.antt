use Rattle.std.proofs.Common.{◌∙◌, sym}
use Rattle.hx_survey.proofs.Walked.{halt_at_by, no_halt}
use Rattle.hx_survey.proofs.ancestry.halt_of.Goals as goal

pub returns-in-Some : goal.returns-in-Some
returns-in-Some c = c.first_halt.ensures ∙ halt_at_by c.args.nodes.now c.args.ups.now c.requires.ups c.args.name.now c.args.halts.now c.in-Some.place c.requires.halts (sym c.place_of.ensures ∙ c.in-Some.is)

pub returns-in-None : goal.returns-in-None
returns-in-None c = no_halt c.args.nodes.now c.args.name.now (sym c.place_of.ensures ∙ c.in-None.is)
