use Rattle.std.proofs.Common.{◌≡◌, None, drop, take}
use Rattle.std.specs.Map.Iter.{deref_pair}
use Rattle.std.specs.Option.{option_map}
use Rattle.hx_store.specs.Least.{least_entry}
use Rattle.hx_store.proofs.name_table.NameTable.walk.Given as goal

-- what is found, and then the slots that are left, give the same as all that are shown
abbrev pub invariant-loop-slot : goal.invariant-loop-slot
invariant-loop-slot l = least_entry (option_map deref_pair l.least) (drop l.slot-index l.slot-items) ≡ least_entry None (take l.self.shown l.self.places.keys)
