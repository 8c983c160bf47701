use Rattle.std.proofs.Common.{List, ◌++◌, ap, ◌∙◌}
use Rattle.std.specs.List.{flat_map}
use Rattle.std.specs.Map.{values_of}
use Rattle.hx_store.specs.ObjectTable.{of_place}
use Rattle.hx_store.specs.Slots.{Entry}
use Rattle.hx_store.proofs.Shown.{listed_taken}
use Rattle.hx_store.proofs.name_table.NameTable.list.Goals as goal

pub loop-slot-init : goal.loop-slot-init
loop-slot-init c =
    let name_table = c.args.self.now in
    ap (λ (l : List Entry). c.args.listed.now.items ++ flat_map of_place (values_of l)) c.slots-slot-items.ensures ∙ ap (λ l. c.args.listed.now.items ++ l) (listed_taken name_table.shown name_table.places.keys)
