use Rattle.std.proofs.Common.{◌<◌, ◌-◌, sym, subst, ◌∙◌, arith, length, min}
use Rattle.indexmap.specs.IndexMap.{spare}
use Rattle.hx_queue.specs.Kept.{QueueView}
use Rattle.hx_queue.proofs.Queueing.{marked_queue, with_queue}
use Rattle.hx_queue.proofs.queue.Queue.mark.Goals as goal

pub invariant_of-self : goal.invariant_of-self
invariant_of-self c = marked_queue c.args.key c.self.inside.line c.self.inside.slots.entries c.mark_held.new.slots.entries c.self.invariant c.mark_held.ensures.marked

pub invariant_of-self-2 : goal.invariant_of-self-2
invariant_of-self-2 c =
    let room : 0 < min (c.self.inside.line.room - length c.self.inside.slots.entries) (spare c.self.inside.slots) = subst (λ (q : QueueView). 0 < q.spare) (sym c.self.view_is) c.requires in
    with_queue c.args.key c.self.inside.line c.push.new.self c.self.inside.slots.entries c.mark_held.new.slots.entries c.self.invariant c.mark_held.ensures.marked c.push.ensures.keys c.push.ensures.room
    (omega (arith, room)) (sym c.mark_held.ensures.held ∙ c.if-mark_held.false)
