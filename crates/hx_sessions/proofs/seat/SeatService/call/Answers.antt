use Rattle.std.proofs.Common.{inl, inr, refl}
use Rattle.hx_sessions.proofs.seat.SeatService.call.Goals as goal

pub returns-in-Ok-clause-called : goal.returns-in-Ok-clause-called
returns-in-Ok-clause-called g c = inl (record { ask = c.in-Ok.ask; reads = c.in-Ok.ensures.ok; adds = c.request.ensures.adds; legal = c.request.ensures.legal })

pub returns-in-Err-clause-called : goal.returns-in-Err-clause-called
returns-in-Err-clause-called g c = inr (record { refusal = c.in-Err.refusal; refused = refl; cause = c.in-Err.ensures.refused; same = refl })
