use Rattle.std.proofs.Common.{◌≡◌}
use Rattle.hx_turn.proofs.turn.Turn.wait.Given as goal

abbrev pub invariant-loop : goal.invariant-loop
invariant-loop g l = (l.pass.table_id ≡ l.fn.pass.table_id) × (l.pass.me ≡ l.fn.pass.me)
