use Rattle.std.proofs.Common.{◌∙◌}
use Rattle.hx_queue.proofs.Whole.{whole_many}
use Rattle.hx_queue.proofs.workers.Workers.waiting.Goals as goal

pub returns : goal.returns
returns c = rw (← c.self.view_is) (c.count.ensures ∙ whole_many c.self.inside.queue c.self.inside.spread c.law_apart.ensures c.law_distinct.ensures)
