use Rattle.std.proofs.Common.{◌∙◌}
use Rattle.hx_sessions.proofs.Asking.{HasAsked-then}
use Rattle.hx_sessions.proofs.seat.SeatServiceService.law_of_more.Goals as goal

pub returns : goal.returns
returns g c = λ a b d first then p q. (HasAsked-then a.seat.me.0 b.seat.me.0 d.seat.me.0 first then p.0 q.0, q.1 ∙ p.1)
