use Rattle.hx_gen.proofs.Stepping.{next_is}
use Rattle.hx_gen.proofs.generated.Generated.next_ask.Goals as goal

pub returns-clause-next : goal.returns-clause-next
returns-clause-next c = next_is c.in_ok-next.next c.self.inside.count c.self.inside.step _ _ c.in_ok-next.ensures.ask c.self.view_is c.behind-self-inside.ensures.left
