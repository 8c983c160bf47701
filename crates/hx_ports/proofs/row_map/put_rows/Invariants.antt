use Rattle.std.proofs.Common.{◌≡◌, ◌≤◌, length}
use Rattle.std.specs.List.{AllByRecursion}
use Rattle.std.specs.Vec.Iter.{into_iter_items}
use Rattle.hx_ports.specs.Keeping.{IsPut, with_puts}
use Rattle.hx_ports.specs.Rows.{rows_in}
use Rattle.indexmap.specs.IndexSet.{spare}
use Rattle.hx_ports.proofs.row_map.put_rows.Given as goal

abbrev pub invariant-loop-object : goal.invariant-loop-object
invariant-loop-object l = record {
  puts : with_puts (into_iter_items l.object-iterator) (rows_in l.held) ≡ with_puts l.fn.puts.items (rows_in l.fn.held);
  are : AllByRecursion IsPut (into_iter_items l.object-iterator);
  room : length (into_iter_items l.object-iterator) ≤ spare l.held;
}
