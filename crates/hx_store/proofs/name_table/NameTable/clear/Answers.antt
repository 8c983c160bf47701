use Rattle.std.proofs.Common.{None, ap, sym, ◌∙◌, refl}
use Rattle.std.specs.Prelude.{is_some}
use Rattle.hx_store.specs.ObjectTable.{filled, place_on}
use Rattle.hx_store.proofs.Edits.{stay_edits}
use Rattle.hx_store.proofs.Shown.{emptied_edits, filled_none, missing}
use Rattle.hx_store.proofs.name_table.NameTable.clear.Goals as goal

pub returns-in-Some-clause-places : goal.returns-in-Some-clause-places
returns-in-Some-clause-places c =
    let name_table = c.args.self.now in
    emptied_edits name_table.shown name_table.places.keys c.args.name.now c.in-Some.index (place_on c.hide.new.self) c.in-Some.ensures.index c.hide.ensures.places

pub returns-in_default-clause-places : goal.returns-in_default-clause-places
returns-in_default-clause-places c =
    let name_table = c.args.self.now in
    let none = missing name_table.shown name_table.places.keys c.args.name.now (sym c.get_index_of.ensures.found ∙ ap is_some c.in_default.is) in
    stay_edits (filled None) (place_on name_table) (place_on name_table) c.args.name.now (λ q. refl) (filled_none None (place_on name_table c.args.name.now) none)
