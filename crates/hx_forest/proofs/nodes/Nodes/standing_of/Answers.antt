use Rattle.std.proofs.Common.{◌∙◌, Some, ap, option_map}
use Rattle.hx_forest.specs.NodeTable.{standing_of}
use Rattle.hx_forest.specs.ParentRefs.{node_in, place_in}
use Rattle.hx_forest.proofs.ParentRefs.{node_at_name}
use Rattle.hx_forest.proofs.nodes.Nodes.standing_of.Goals as goal

pub returns : goal.returns
returns c = c.standing.ensures ∙ ap (option_map standing_of) (ap (λ o. node_in (place_in c.args.self.now o)) c.index_of.ensures ∙ node_at_name c.args.self.now (Some c.args.name.now))
