use Rattle.std.proofs.Common.{◌≡◌, List, ℕ, drop}
use Rattle.hx_store.specs.ObjectTable.{IsNameTable, place_along, place_on}
use Rattle.hx_store.proofs.Along.{either_place}
use Rattle.hx_store.proofs.name_list.NameList.to_name_table.Given as goal

-- what is on the table of names, or else along what is left of the list of names, is what is along the list of names
abbrev pub invariant-loop-name : goal.invariant-loop-name
invariant-loop-name l = IsNameTable l.name_table × ((q : List ℕ) → either_place (place_on l.name_table q) (drop l.name-index l.self.places.items) q ≡ place_along l.self q)
