use Rattle.std.proofs.Common.{◌-◌, List, Some, length, rules, slice_get, sym, ap, subst, ◌∙◌}
use Rattle.std.specs.Prelude.{IfSome}
use Rattle.std.specs.Option.{option_copied}
use Rattle.hx_store.specs.Least.{IsLeast}
use Rattle.hx_store.specs.ObjectTable.{found, place_on}
use Rattle.hx_store.specs.Slots.{Entry}
use Rattle.hx_store.proofs.Shown.{last_shown}
use Rattle.hx_store.proofs.name_table.NameTable.last.Goals as goal

pub returns-in-Some : goal.returns-in-Some
returns-in-Some c = λ name_table.
    let at = ap (λ (l : List Entry). slice_get l (length l - 1)) (sym c.slots.ensures) ∙ sym c.last.ensures.value ∙ ap option_copied c.in-Some.is in
    subst (λ o. IfSome o (λ x. IsLeast (λ name. found (place_on c.args.self.now name)) (Some x))) (sym c.object.ensures)
    (last_shown c.args.self.now.shown c.args.self.now.places.keys c.in-Some.slot.now.0 c.in-Some.slot.now.1 name_table.0 (name_table.1 (search rules)) at)
