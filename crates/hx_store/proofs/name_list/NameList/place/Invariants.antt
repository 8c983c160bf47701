use Rattle.std.proofs.Common.{◌≡◌, drop}
use Rattle.std.specs.Map.{lookup}
use Rattle.std.specs.Str.{bytes_eq}
use Rattle.hx_store.proofs.name_list.NameList.place.Given as goal

-- the places that are left give the same as all places
abbrev pub invariant-loop-held : goal.invariant-loop-held
invariant-loop-held l = lookup (bytes_eq l.name) (drop l.held-index l.self.places.items) ≡ lookup (bytes_eq l.name) l.self.places.items
