use Rattle.std.proofs.Common.{arith, refl}
use Rattle.hx_queue.proofs.Queueing.{still_queue}
use Rattle.hx_queue.proofs.queue.Queue.outdate.Goals as goal

pub invariant_of-self : goal.invariant_of-self
invariant_of-self c = still_queue c.self.inside.line c.outdate.new.self c.self.inside.slots.entries c.self.inside.slots.entries c.self.invariant c.outdate.ensures.keys (omega (arith, c.outdate.ensures.room)) refl
