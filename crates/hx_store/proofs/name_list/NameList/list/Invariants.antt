use Rattle.std.proofs.Common.{◌≡◌, ◌++◌, drop}
use Rattle.std.specs.List.{flat_map}
use Rattle.std.specs.Map.{values_of}
use Rattle.hx_store.specs.ObjectTable.{of_place, objects_along}
use Rattle.hx_store.proofs.name_list.NameList.list.Given as goal

-- what is listed, and then the objects of the places that are left
abbrev pub invariant-loop-place : goal.invariant-loop-place
invariant-loop-place l = l.listed.items ++ flat_map of_place (values_of (drop l.place-index l.self.places.items)) ≡ l.fn.listed.items ++ objects_along l.self
