use Rattle.hx_store.proofs.Along.{one_name_list}
use Rattle.hx_store.proofs.name_list.NameList.of.Goals as goal

pub returns-clause-name_list : goal.returns-clause-name_list
returns-clause-name_list c = c.make.ensures.name_list (one_name_list c.in_ok-name_list.name_list.places.items (c.args.held.now, c.args.place) c.in_ok-name_list.ensures)
