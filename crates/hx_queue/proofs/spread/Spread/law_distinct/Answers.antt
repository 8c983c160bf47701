use Rattle.hx_queue.specs.Spreading.{scope_of}
use Rattle.hx_queue.proofs.Spreads.{spread_distinct}
use Rattle.hx_queue.proofs.spread.Spread.law_distinct.Goals as goal

pub returns : goal.returns
returns c = rw (← c.self.view_is) (spread_distinct (scope_of c.self.inside.scope) c.self.inside.ids.keys c.self.invariant)
