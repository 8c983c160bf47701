use Rattle.std.proofs.Common.{Some, is_some, sym, ap, ◌∙◌}
use Rattle.hx_forest.specs.ParentRefs.{forest_of, node_in, place_in}
use Rattle.hx_forest.proofs.ParentRefs.{node_there, place_at_name}
use Rattle.hx_forest.proofs.Reasons.{nowhere}
use Rattle.hx_forest.proofs.nodes.Nodes.halt.Goals as goal

pub returns-in-None : goal.returns-in-None
returns-in-None c =
    let nodes = c.args.self.now in
    let n = c.args.name.now in
    nowhere (forest_of nodes) n (ap is_some (node_there nodes n ∙ ap node_in (sym (place_at_name nodes (Some n)) ∙ ap (place_in nodes) (sym c.index_of.ensures ∙ c.in-None.is))))
