use Rattle.hx_store.proofs.Edits.{held_name_map, one_name_map}
use Rattle.hx_store.proofs.name_map.alone.Goals as goal

pub returns-in-Some-clause-name_map : goal.returns-in-Some-clause-name_map
returns-in-Some-clause-name_map c = one_name_map c.args.name c.in-Some.object

pub returns-in-None-clause-name_map : goal.returns-in-None-clause-name_map
returns-in-None-clause-name_map c = held_name_map c.args.name
