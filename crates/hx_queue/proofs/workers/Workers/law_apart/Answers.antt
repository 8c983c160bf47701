use Rattle.hx_queue.specs.Tied.{hands_of}
use Rattle.hx_queue.proofs.Whole.{whole_apart}
use Rattle.hx_queue.proofs.workers.Workers.law_apart.Goals as goal

pub returns : goal.returns
returns c = rw (← c.self.view_is) (whole_apart (hands_of c.self.inside.hands.items) c.self.inside.queue c.self.inside.spread c.self.invariant c.law_apart.ensures)
