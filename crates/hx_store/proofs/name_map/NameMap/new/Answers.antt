use Rattle.hx_store.proofs.Edits.{held_name_map}
use Rattle.hx_store.proofs.name_map.NameMap.new.Goals as goal

pub returns-clause-name_map : goal.returns-clause-name_map
returns-clause-name_map c = held_name_map c.in_ok-of.field-0
