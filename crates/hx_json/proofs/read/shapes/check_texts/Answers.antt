use Rattle.json.specs.Value.{value_view}
use Rattle.hx_json.proofs.Orders.{found_sorted}
use Rattle.hx_json.proofs.read.shapes.check_texts.Goals as goal

pub check_found-requires : goal.check_found-requires
check_found-requires c = found_sorted c.args.name.now (value_view c.args.metadata.now) (value_view c.in-Some.found.now) c.requires c.in-Some.ensures.tree
