use Rattle.hx_sessions.proofs.Leading.{door_law}
use Rattle.hx_sessions.proofs.law.law_of_doors.Goals as goal

pub returns : goal.returns
returns c = λ most old log new led. door_law most old log new led
