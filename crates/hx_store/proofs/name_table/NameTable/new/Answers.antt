use Rattle.std.proofs.Common.{false, ap, refl}
use Rattle.hx_store.specs.Slots.{as_shown}
use Rattle.hx_store.proofs.Edits.{empty_name_table}
use Rattle.hx_store.proofs.name_table.NameTable.new.Goals as goal

pub returns-clause-name_table : goal.returns-clause-name_table
returns-clause-name_table c = empty_name_table (record { places = c.with_hasher.result; shown = 0; descends = false }) (ap (as_shown 0) c.with_hasher.ensures.empty) refl
