use Rattle.json.specs.Value.{value_view}
use Rattle.hx_json.proofs.Orders.{found_inside}
use Rattle.hx_json.proofs.read.parts.pairs_in.Goals as goal

pub pairs_at-requires : goal.pairs_at-requires
pairs_at-requires c = found_inside c.args.name.now (value_view c.args.value.now) (value_view c.in-Some.metadata.now) c.requires c.in-Some.ensures.tree
