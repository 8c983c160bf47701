use Rattle.std.proofs.Common.{◌≡◌, ◌++◌}
use Rattle.std.specs.List.{flat_map}
use Rattle.std.specs.Map.{values_of}
use Rattle.hx_store.specs.ObjectTable.{objects_in, objects_of}
use Rattle.hx_store.proofs.kind_table.KindTable.list.Given as goal

-- what is listed, and then the objects of the tables of kinds that are left
abbrev pub invariant-loop-name_map : goal.invariant-loop-name_map
invariant-loop-name_map l = l.listed.items ++ flat_map objects_in (values_of l.name_map-iterator) ≡ l.fn.listed.items ++ objects_of l.self
