use Rattle.std.proofs.Common.{◌∙◌, ap}
use Rattle.hx_queue.specs.Spreading.{scope_of}
use Rattle.hx_queue.proofs.Spreads.{all_in_line}
use Rattle.hx_queue.proofs.spread.Spread.count.Goals as goal

pub returns-in_default : goal.returns-in_default
returns-in_default c = rw (← c.self.view_is) (c.waiting-in_default.ensures ∙ all_in_line c.args.queue.now.waiting (scope_of c.self.inside.scope) c.self.inside.ids.keys (ap scope_of c.in_default.is))
