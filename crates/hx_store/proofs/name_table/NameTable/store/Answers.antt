use Rattle.std.proofs.Common.{◌≡◌, Some, ap, position, refl, subst, sym, ◌∙◌}
use Rattle.std.specs.Prelude.{is_some}
use Rattle.std.specs.List.{list_any}
use Rattle.indexmap.specs.IndexSet.{replace_key}
use Rattle.hx_store.specs.Least.{Descends}
use Rattle.hx_store.specs.ObjectTable.{filled, place_on}
use Rattle.hx_store.specs.Slots.{Entry, same_name}
use Rattle.hx_store.proofs.Edits.{stay_edits}
use Rattle.hx_store.proofs.Shown.{distinct_shown, filled_none, missing, names_stay, replaced_edits, unless_absent}
use Rattle.hx_store.proofs.name_table.NameTable.store.Goals as goal

pub returns-in_default-clause-places : goal.returns-in_default-clause-places
returns-in_default-clause-places c =
    let name_table = c.args.self.now in
    let name = c.args.object.id.name in
    let none = missing name_table.shown name_table.places.keys name (ap (λ (e : Entry). list_any (same_name e) name_table.places.keys) (sym c.own-slot.ensures) ∙ sym c.get_index_of.ensures.found ∙ ap is_some c.in_default.is) in
    stay_edits (filled (Some c.args.object)) (place_on name_table) (place_on name_table) name (λ q. refl) (filled_none (Some c.args.object) (place_on name_table name) none)

replaced : (c : goal.Joined-had) → c.replace-had.new.self.keys ≡ replace_key same_name c.args.self.now.places.keys c.own-slot.result
replaced c = unless_absent c.replace-had.result c.replace-had.ensures.keys c.replace-had.ensures.absent c.in-Some.ensures.found

pub returns-clause-name_table : goal.returns-clause-name_table
returns-clause-name_table c = λ name_table. c.show.ensures.name_table (
  distinct_shown c.args.self.now.shown c.replace-had.new.self.keys c.replace-had.ensures.unique,
  λ t. subst Descends (sym (names_stay c.args.self.now.shown c.args.self.now.places.keys c.replace-had.new.self.keys c.own-slot.result (sym c.in-Some.ensures.found) (replaced c))) (name_table.1 t),
)

pub returns-clause-places : goal.returns-clause-places
returns-clause-places c =
    let name_table = c.args.self.now in
    let es = name_table.places.keys in
    replaced_edits name_table.shown es c.replace-had.new.self.keys (c.args.object.id.name, Some c.args.object) c.in-Some.index (place_on c.show.new.self)
    (c.in-Some.ensures.index ∙ ap (λ (e : Entry). position (same_name e) es) c.own-slot.ensures) (replaced c ∙ ap (replace_key same_name es) c.own-slot.ensures) c.show.ensures.places
