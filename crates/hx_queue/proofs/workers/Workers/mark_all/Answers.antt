use Rattle.hx_queue.specs.Tied.{hands_of}
use Rattle.hx_queue.proofs.Whole.{kept_by_marks, seen_by_all_marks}
use Rattle.hx_queue.proofs.workers.Workers.mark_all.Goals as goal

pub invariant_of-self : goal.invariant_of-self
invariant_of-self c = kept_by_marks c.args.keys.items (hands_of c.self.inside.hands.items) c.self.inside.queue c.mark_each.new.queue c.self.inside.spread c.self.invariant c.mark_each.ensures

pub returns-clause-marked : goal.returns-clause-marked
returns-clause-marked c =
    rw (← c.self.view_is) (seen_by_all_marks c.args.keys.items (hands_of c.self.inside.hands.items) c.self.inside.queue c.mark_each.new.queue c.self.inside.spread c.self.invariant c.mark_each.ensures)
