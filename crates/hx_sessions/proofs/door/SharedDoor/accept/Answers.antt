use Rattle.hx_sessions.proofs.Leading.{led_more}
use Rattle.hx_sessions.proofs.door.SharedDoor.accept.Goals as goal

pub leave_told-requires-clause-stands : goal.leave_told-requires-clause-stands
leave_told-requires-clause-stands g c =
    let s = c.enter-held.ensures.stands in (s.0, s.1, led_more s.0 _ _ _ _ _ s.2 c.accept-answer.ensures.leads)
