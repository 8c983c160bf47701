use Rattle.hx_sessions.proofs.Leading.{led_more}
use Rattle.hx_sessions.specs.declared.door.Told.TheVariants as told
use Rattle.hx_sessions.proofs.door.SharedDoor.take_back.Goals as goal

pub leave_back-requires-clause-stands : goal.leave_back-requires-clause-stands
leave_back-requires-clause-stands g c =
    let s = c.enter-held.ensures.stands in (s.0, s.1, led_more s.0 _ _ _ _ told.Back s.2 c.take_back.ensures)
