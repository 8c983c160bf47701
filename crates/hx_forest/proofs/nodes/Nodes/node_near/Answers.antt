use Rattle.std.proofs.Common.{◌∙◌, ap, sym}
use Rattle.hx_forest.specs.ParentRefs.{node_in}
use Rattle.hx_forest.proofs.ParentRefs.{node_there}
use Rattle.hx_forest.proofs.nodes.Nodes.node_near.Goals as goal

pub returns-then-lies_at : goal.returns-then-lies_at
returns-then-lies_at c = c.node_in.ensures ∙ ap node_in (c.lies_at.ensures c.if-lies_at.true) ∙ sym (node_there c.args.self.now c.args.name.now)
