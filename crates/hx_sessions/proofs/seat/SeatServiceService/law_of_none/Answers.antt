use Rattle.std.proofs.Common.{refl}
use Rattle.hx_sessions.proofs.Asking.{HasAsked-none}
use Rattle.hx_sessions.proofs.seat.SeatServiceService.law_of_none.Goals as goal

pub returns : goal.returns
returns g c = λ state. (HasAsked-none state.seat.me.0, refl)
