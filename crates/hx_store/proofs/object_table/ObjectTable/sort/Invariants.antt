use Rattle.std.proofs.Common.{◌≡◌}
use Rattle.hx_object.specs.declared.object.Id.{Id}
use Rattle.hx_store.specs.ObjectTable.{IsObjectTable, place_at}
use Rattle.hx_store.proofs.object_table.ObjectTable.sort.Given as goal

-- each place stays
abbrev pub invariant-loop-index : goal.invariant-loop-index
invariant-loop-index l = record {
  places : IsObjectTable l.fn.self → IsObjectTable l.self;
  same : IsObjectTable l.fn.self → (id : Id) → place_at l.self id ≡ place_at l.fn.self id;
}
