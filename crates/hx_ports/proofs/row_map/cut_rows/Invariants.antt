use Rattle.std.proofs.Common.{◌≡◌}
use Rattle.std.specs.Vec.Iter.{into_iter_items}
use Rattle.hx_ports.specs.Keeping.{with_cuts}
use Rattle.hx_ports.specs.Rows.{rows_in}
use Rattle.hx_ports.proofs.row_map.cut_rows.Given as goal

abbrev pub invariant-loop-id : goal.invariant-loop-id
invariant-loop-id l = with_cuts (into_iter_items l.id-iterator) (rows_in l.held) ≡ with_cuts l.fn.ids.items (rows_in l.fn.held)
