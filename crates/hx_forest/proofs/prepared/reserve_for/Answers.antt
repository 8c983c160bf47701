use Rattle.std.proofs.Common.{Some}
use Rattle.hx_forest.proofs.Indexing.{within_lists}
use Rattle.hx_forest.proofs.prepared.reserve_for.Goals as goal

pub reserve_under-requires : goal.reserve_under-requires
reserve_under-requires c = within_lists c.args.nodes.now c.args.children.now (Some c.in-Some.link.parent) c.index_of-at.result c.requires c.index_of-at.ensures
