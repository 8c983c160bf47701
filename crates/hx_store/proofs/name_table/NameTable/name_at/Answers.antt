use Rattle.std.proofs.Common.{List, None, Some, ℕ, ◌≡◌, ap, slice_get, sym, ◌∙◌}
use Rattle.std.specs.Option.{option_copied, option_map}
use Rattle.hx_store.specs.Slots.{Entry}
use Rattle.hx_store.proofs.Shown.{name_shown}
use Rattle.hx_store.proofs.name_table.NameTable.name_at.Goals as goal

abbrev name_of : Entry → List ℕ
name_of e = e.0

pub returns-in-Some : goal.returns-in-Some
returns-in-Some c =
    let name_table = c.args.self.now in
    let at : Some c.in-Some.slot.now ≡ slice_get name_table.places.keys c.args.index = ap option_copied (sym c.in-Some.is) ∙ c.get_index.ensures.key in
    ap Some c.name.ensures ∙ ap (option_map name_of) at ∙ sym (name_shown name_table.shown name_table.places.keys c.args.index)

pub returns-in-None : goal.returns-in-None
returns-in-None c =
    let name_table = c.args.self.now in
    let at : None ≡ slice_get name_table.places.keys c.args.index = ap option_copied (sym c.in-None.is) ∙ c.get_index.ensures.key in
    ap (option_map name_of) at ∙ sym (name_shown name_table.shown name_table.places.keys c.args.index)
