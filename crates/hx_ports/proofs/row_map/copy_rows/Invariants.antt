use Rattle.std.proofs.Common.{◌≡◌, ◌++◌}
use Rattle.hx_ports.specs.Rows.{entries_of}
use Rattle.hx_ports.proofs.row_map.copy_rows.Given as goal

abbrev pub invariant-loop-row : goal.invariant-loop-row
invariant-loop-row l = entries_of l.rows.items ++ l.row-iterator ≡ l.held.keys
