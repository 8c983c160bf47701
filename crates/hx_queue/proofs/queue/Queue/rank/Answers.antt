use Rattle.hx_queue.proofs.Queueing.{ranked_queue}
use Rattle.hx_queue.proofs.queue.Queue.rank.Goals as goal

pub invariant_of-self : goal.invariant_of-self
invariant_of-self c = ranked_queue c.self.inside.line c.rank.new.self c.self.inside.slots.entries c.self.invariant c.rank.ensures.keys c.rank.ensures.room
