use Rattle.std.proofs.Common.{◌≡◌}
use Rattle.hx_turn.specs.Passes.{IsOutside}
use Rattle.hx_shared.specs.Seats.{HasHistory}
use Rattle.hx_shared.specs.Working.{HasWorked}
use Rattle.hx_shared.proofs.shared.Shared.work.Given as goal

abbrev pub invariant-loop-turn : goal.invariant-loop-turn
invariant-loop-turn g l = (l.seat.table_id ≡ l.fn.self) × IsOutside l.seat.me × HasWorked l.fn.worker l.turn l.got_on l.fn.seat.me.0 l.seat.me.0 × (HasHistory l.fn.seat.me.0 → HasHistory l.seat.me.0)
