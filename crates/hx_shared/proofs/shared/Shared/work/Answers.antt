use Rattle.hx_shared.proofs.Turning.{worked_more}
use Rattle.hx_shared.proofs.shared.Shared.work.Goals as goal

pub loop-turn-preserved : goal.loop-turn-preserved
loop-turn-preserved g c =
    let i = c.loop-turn.invariant in
    let t = c.turn_once-got_on.ensures in (
      t.own,
      t.outside,
      worked_more c.args.seat.now.me.0 c.loop-turn.seat.me.0 c.turn_once-got_on.new.seat.me.0 c.args.worker c.loop-turn.turn c.loop-turn.got_on c.turn_once-got_on.result i.2 t.turned,
      λ before. t.legal,
    )
