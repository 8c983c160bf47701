use Rattle.std.proofs.Common.{◌≡◌}
use Rattle.hx_sqlite.proofs.database.put_rows.Given as goal

abbrev pub invariant-loop-object : goal.invariant-loop-object
invariant-loop-object g l = l.transaction.conn.ghost_name ≡ l.fn.transaction.conn.ghost_name
