use Rattle.std.proofs.Common.{◌≡◌, ◌<◌, ◌-◌, false, sym, ap, subst, ◌∙◌, arith, is_some, length, min}
use Rattle.std.specs.Prelude.{find}
use Rattle.indexmap.specs.IndexMap.{spare}
use Rattle.hx_model.specs.Keys.{same_key}
use Rattle.hx_queue.specs.Kept.{Held, QueueView, is_held}
use Rattle.hx_queue.specs.Slots.{held_of}
use Rattle.hx_queue.proofs.Queueing.{held_queue}
use Rattle.hx_queue.proofs.queue.Queue.hold.Goals as goal

pub invariant_of-self : goal.invariant_of-self
invariant_of-self c =
    let room : 0 < min (c.self.inside.line.room - length c.self.inside.slots.entries) (spare c.self.inside.slots) = subst (λ (q : QueueView). 0 < q.spare) (sym c.self.view_is) c.requires.room in
    let free : is_some (find (λ (h : Held). same_key c.args.key h.key) (held_of c.self.inside.slots.entries)) ≡ false = ap (λ (q : QueueView). is_held q c.args.key) c.self.view_is ∙ c.requires.free in
    held_queue c.args.key (record { worker = c.args.worker; again = false }) c.self.inside.line c.take.new.self c.self.inside.slots.entries c.put.new.slots.entries c.self.invariant c.take.ensures.keys c.put.ensures.entries c.take.ensures.room
    (omega (arith, room)) free
