use Rattle.json.specs.Value.{value_view}
use Rattle.hx_json.proofs.Orders.{found_sorted}
use Rattle.hx_json.proofs.read.parts.pairs_at.Goals as goal

pub pairs_from-requires : goal.pairs_from-requires
pairs_from-requires c = found_sorted c.args.name.now (value_view c.args.metadata.now) (value_view c.in-Some.found.now) c.requires c.in-Some.ensures.tree
