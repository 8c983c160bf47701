use Rattle.std.proofs.Common.{◌≡◌, None, drop}
use Rattle.std.specs.Map.Iter.{deref_pair}
use Rattle.std.specs.Option.{option_map}
use Rattle.hx_store.specs.Least.{least_entry}
use Rattle.hx_store.proofs.name_list.NameList.walk.Given as goal

-- what is found, and then the places that are left, give the same as all places
abbrev pub invariant-loop-name : goal.invariant-loop-name
invariant-loop-name l = least_entry (option_map deref_pair l.least) (drop l.name-index l.self.places.items) ≡ least_entry None l.self.places.items
