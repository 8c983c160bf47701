use Rattle.hx_team.proofs.Teaming.{stayed_then}
use Rattle.hx_team.proofs.worker.work_until_over.Goals as goal

pub working-preserved : goal.working-preserved
working-preserved g c =
    let i = c.working.invariant in
    let t = c.work_or_sleep.ensures in (t.seat, stayed_then c.args.seat.me.0 c.working.seat.me.0 c.work_or_sleep.new.seat.me.0 i.1 t.stayed)
