use Rattle.std.proofs.Common.{subst}
use Rattle.hx_script.specs.Inside.{IsUnread}
use Rattle.hx_script.proofs.Making.{Serves-refused, Serves-lost_take}
use Rattle.hx_script.proofs.responder.Responder.refuse.Goals as goal

pub returns-in-Refused : goal.returns-in-Refused
returns-in-Refused g c = λ reading cluster is. Serves-refused reading c.in-Refused.refusal cluster _ _ _ (subst (λ u. IsUnread reading u) c.in-Refused.is is) c.say-said.ensures

pub returns-in-LostTake : goal.returns-in-LostTake
returns-in-LostTake g c = λ reading cluster is. Serves-lost_take reading c.in-LostTake.worker cluster _ _ _ (subst (λ u. IsUnread reading u) c.in-LostTake.is is) c.say_lost_take.ensures
