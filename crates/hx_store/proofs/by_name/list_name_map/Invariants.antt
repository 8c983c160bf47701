use Rattle.std.proofs.Common.{◌≡◌, ◌++◌, drop}
use Rattle.hx_store.specs.ObjectTable.{entries_of}
use Rattle.hx_store.specs.ByName.{indexed_among}
use Rattle.hx_store.proofs.by_name.list_name_map.Given as goal

-- what is listed, and then what lies in the namespaces that are left
abbrev pub invariant-loop-index : goal.invariant-loop-index
invariant-loop-index l = l.listed.items ++ indexed_among l.places l.kind l.name (drop l.index (entries_of l.name_map)) ≡ l.fn.listed.items ++ indexed_among l.places l.kind l.name (entries_of l.name_map)
