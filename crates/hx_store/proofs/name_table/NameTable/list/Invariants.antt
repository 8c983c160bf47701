use Rattle.std.proofs.Common.{◌≡◌, ◌++◌, drop}
use Rattle.std.specs.List.{flat_map}
use Rattle.std.specs.Map.{values_of}
use Rattle.hx_store.specs.ObjectTable.{of_place, objects_on}
use Rattle.hx_store.proofs.name_table.NameTable.list.Given as goal

-- what is listed, and then the objects of the slots that are left
abbrev pub invariant-loop-slot : goal.invariant-loop-slot
invariant-loop-slot l = l.listed.items ++ flat_map of_place (values_of (drop l.slot-index l.slot-items)) ≡ l.fn.listed.items ++ objects_on l.self
