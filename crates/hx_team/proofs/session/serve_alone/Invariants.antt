use Rattle.std.specs.Prelude.{◌≡◌, true}
use Rattle.hx_team.specs.Team.{HasLed, HasStayed}
use Rattle.hx_team.proofs.session.serve_alone.Given as goal

abbrev pub invariant-serving : goal.invariant-serving
invariant-serving g l = (l.service.seat.table_id ≡ l.fn.team.shared.now) × HasStayed l.fn.seat.me.0 l.service.seat.me.0 × HasLed true l.fn.door l.door
