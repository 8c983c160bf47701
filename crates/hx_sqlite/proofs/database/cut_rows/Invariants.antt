use Rattle.std.proofs.Common.{◌≡◌}
use Rattle.hx_sqlite.proofs.database.cut_rows.Given as goal

abbrev pub invariant-loop-id : goal.invariant-loop-id
invariant-loop-id g l = l.transaction.conn.ghost_name ≡ l.fn.transaction.conn.ghost_name
