use Rattle.hx_queue.specs.Tied.{hands_of}
use Rattle.hx_queue.specs.Workers.{MaySpread, WorkersKept}
use Rattle.hx_queue.proofs.Whole.{kept_by_spread, seen_by_spread}
use Rattle.hx_queue.proofs.workers.Workers.mark_spread.Goals as goal
use Rattle.std.proofs.Common.{subst, sym}

pub invariant_of-self : goal.invariant_of-self
invariant_of-self c =
    kept_by_spread c.args.id (hands_of c.self.inside.hands.items) c.self.inside.queue c.self.inside.spread c.add.new.self c.self.invariant
    (subst (λ (w : WorkersKept). MaySpread c.args.id w.seen.hands w.scope w.spread) (sym c.self.view_is) c.requires.may) c.add.ensures.ids

pub returns-clause-marked : goal.returns-clause-marked
returns-clause-marked c =
    rw (← c.self.view_is) (seen_by_spread c.args.id (hands_of c.self.inside.hands.items) c.self.inside.queue c.self.inside.spread c.add.new.self
    (subst (λ (w : WorkersKept). MaySpread c.args.id w.seen.hands w.scope w.spread) (sym c.self.view_is) c.requires.may) c.add.ensures.scope c.add.ensures.ids)
