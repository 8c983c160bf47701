use Rattle.std.proofs.Common.{◌∙◌, ap, sym, option_map}
use Rattle.json.specs.Value.{value_view}
use Rattle.hx_json.specs.Trees.{data_of}
use Rattle.hx_json.proofs.Orders.{said_of}
use Rattle.hx_json.proofs.Trees.{get_of}
use Rattle.hx_json.proofs.read.members.get.Goals as goal

pub returns-clause-said : goal.returns-clause-said
returns-clause-said c = said_of c.get.result ∙ ap (option_map data_of) c.get.ensures ∙ sym (get_of c.args.name.now (value_view c.args.value.now))
