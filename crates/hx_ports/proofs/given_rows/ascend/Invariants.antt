use Rattle.std.proofs.Common.{◌-◌}
use Rattle.hx_ports.proofs.Placed.{SoFar}
use Rattle.hx_ports.proofs.given_rows.ascend.Given as goal

abbrev pub invariant-loop-i : goal.invariant-loop-i
invariant-loop-i l = SoFar l.rows (l.i - 1)
