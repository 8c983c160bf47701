use Rattle.std.proofs.Common.{◌≡◌, drop}
use Rattle.std.specs.List.{list_any}
use Rattle.hx_store.specs.ObjectTable.{is_of_another}
use Rattle.hx_store.proofs.name_list.NameList.has_another.Given as goal

-- the places that are left give the same as all places
abbrev pub invariant-loop-held : goal.invariant-loop-held
invariant-loop-held l = list_any (is_of_another l.name) (drop l.held-index l.self.places.items) ≡ list_any (is_of_another l.name) l.self.places.items
