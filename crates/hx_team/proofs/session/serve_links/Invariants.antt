use Rattle.std.specs.Prelude.{◌≡◌}
use Rattle.hx_team.specs.Team.{HaveGone, IsAt}
use Rattle.hx_team.proofs.session.serve_links.Given as goal

abbrev pub invariant-serving : goal.invariant-serving
invariant-serving g l = (l.service.seat.table_id ≡ l.fn.team.shared.now) × IsAt l.fn.door l.pass.table_id l.pass.me × HaveGone l.fn.hands.seat.me.0 l.service.seat.me.0 l.fn.hands.pass.me.0 l.pass.me.0
