use Rattle.std.proofs.Common.{◌∙◌, ap}
use Rattle.hx_survey.specs.Inside.{node_at}
use Rattle.hx_survey.proofs.Placed.{node_place}
use Rattle.hx_survey.proofs.places.node_of.Goals as goal

pub returns : goal.returns
returns c = c.node_at.ensures ∙ ap (node_at c.args.nodes.now) c.place_of.ensures ∙ node_place c.args.nodes.now c.args.name.now
