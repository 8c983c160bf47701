use Rattle.hx_team.specs.Team.{HasStayed, IsAt}
use Rattle.hx_team.proofs.worker.work_until_over.Given as goal

abbrev pub invariant-working : goal.invariant-working
invariant-working g l = IsAt l.fn.team.shared.now l.seat.table_id l.seat.me × HasStayed l.fn.seat.me.0 l.seat.me.0
