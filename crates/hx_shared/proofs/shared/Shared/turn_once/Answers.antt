use Rattle.hx_shared.proofs.Turning.{taken_if, turned}
use Rattle.hx_shared.proofs.shared.Shared.turn_once.Goals as goal

pub returns-clause-turned : goal.returns-clause-turned
returns-clause-turned g c = turned c.args.seat.now.me.0 c.take-taken.new.seat.me.0 c.end_turn.new.seat.me.0 c.args.worker c.take-taken.result c.end_turn.result c.take-taken.ensures.adds c.end_turn.ensures.ends

pub end_turn-requires-clause-taken : goal.end_turn-requires-clause-taken
end_turn-requires-clause-taken g c = taken_if c.args.seat.now.me.0 c.take-taken.new.seat.me.0 c.args.worker c.take-taken.result c.take-taken.ensures.adds
