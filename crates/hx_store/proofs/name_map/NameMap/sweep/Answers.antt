use Rattle.hx_store.proofs.Edits.{empty_name_map}
use Rattle.hx_store.proofs.name_map.NameMap.sweep.Goals as goal

pub returns-then-eq-clause-name_map : goal.returns-then-eq-clause-name_map
returns-then-eq-clause-name_map c _ = empty_name_map
