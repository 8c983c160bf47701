use Rattle.std.proofs.Common.{refl}
use Rattle.hx_sessions.proofs.Asking.{HasAsked-refused}
use Rattle.hx_sessions.proofs.seat.SeatServiceService.law_of_refused.Goals as goal

pub returns : goal.returns
returns g c = λ state fault. (HasAsked-refused state.seat.me.0 fault, refl)
