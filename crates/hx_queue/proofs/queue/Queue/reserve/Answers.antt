use Rattle.std.proofs.Common.{refl}
use Rattle.hx_queue.proofs.Queueing.{still_queue}
use Rattle.hx_queue.proofs.queue.Queue.reserve.Goals as goal

pub invariant_of-self : goal.invariant_of-self
invariant_of-self c = still_queue c.self.inside.line c.reserve.new.self c.self.inside.slots.entries c.self.inside.slots.entries c.self.invariant c.reserve.ensures.keys c.reserve.ensures.kept refl

pub invariant_of-self-in_err-reserve-2 : goal.invariant_of-self-in_err-reserve-2
invariant_of-self-in_err-reserve-2 c = still_queue c.self.inside.line c.reserve.new.self c.self.inside.slots.entries c.reserve-2.new.self.entries c.self.invariant c.reserve.ensures.keys c.reserve.ensures.kept c.reserve-2.ensures.entries

pub invariant_of-self-2 : goal.invariant_of-self-2
invariant_of-self-2 c = still_queue c.self.inside.line c.reserve.new.self c.self.inside.slots.entries c.reserve-2.new.self.entries c.self.invariant c.reserve.ensures.keys c.reserve.ensures.kept c.reserve-2.ensures.entries
