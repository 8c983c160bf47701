use Rattle.std.proofs.Common.{◌≡◌, Some, ap, slice_get, sym, ◌∙◌}
use Rattle.std.specs.Prelude.{option_copied}
use Rattle.hx_store.proofs.Shown.{found_hidden, found_shown, slot_at}
use Rattle.hx_store.proofs.name_table.NameTable.object_at.Goals as goal

pub returns-then-self-index : goal.returns-then-self-index
returns-then-self-index c = λ name first.
    let es = c.args.self.now.places.keys in
    let slot = slot_at es name c.args.index first in
    found_hidden c.args.self.now.shown es name c.args.index slot.0 first slot.1 c.if-self-index.true

pub returns-in-Some : goal.returns-in-Some
returns-in-Some c = λ name first.
    let es = c.args.self.now.places.keys in
    let at : slice_get es c.args.index ≡ Some c.in-Some.slot.now = sym c.get_index.ensures.key ∙ ap option_copied c.in-Some.is in
    c.object.ensures ∙ found_shown c.args.self.now.shown es name c.args.index c.in-Some.slot.now first at c.if-self-index.false
