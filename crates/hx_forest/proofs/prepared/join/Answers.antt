use Rattle.hx_forest.specs.ParentRefs.{parent_in}
use Rattle.hx_forest.proofs.Indexing.{within_lists}
use Rattle.hx_forest.proofs.prepared.join.Goals as goal

pub link-requires-clause-there : goal.link-requires-clause-there
link-requires-clause-there c = within_lists c.args.nodes.now c.args.children.now (parent_in c.args.nodes.now c.args.at) c.above.result c.requires.tied c.above.ensures
