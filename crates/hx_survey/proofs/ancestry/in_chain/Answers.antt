use Rattle.std.proofs.Common.{◌∙◌, sym}
use Rattle.hx_survey.proofs.Walked.{in_chain_by, missing_chain}
use Rattle.hx_survey.proofs.ancestry.in_chain.Goals as goal

pub returns-in-Some : goal.returns-in-Some
returns-in-Some c = c.passes.ensures ∙ in_chain_by c.args.nodes.now c.args.ups.now c.requires.ups c.args.name.now c.args.above.now c.place_of-first.result c.in-Some.sought c.place_of-first.ensures (sym c.place_of.ensures ∙ c.in-Some.is)

pub returns-in-None : goal.returns-in-None
returns-in-None c = missing_chain c.args.nodes.now c.args.name.now c.args.above.now (sym c.place_of.ensures ∙ c.in-None.is)
