use Rattle.hx_core.specs.Inside.{view_of}
use Rattle.hx_model.specs.Hands.{hand_of}
use Rattle.hx_reconcile.specs.Briefs.{hand_by}
use Rattle.hx_core.proofs.Finishing.{ends_empty, held_is}
use Rattle.hx_core.proofs.cluster.Cluster.end.Goals as goal

pub returns-in-None : goal.returns-in-None
returns-in-None g c = rw (← c.self.view_is) (ends_empty (view_of c.self.inside.state.state c.self.inside.workers.seen (g.K.Keeper.shown c.self.inside.keeper)) c.args.worker c.self.invariant.sound.world c.in-None.ensures.none)

pub end_held-requires-clause-hand : goal.end_held-requires-clause-hand
end_held-requires-clause-hand g c =
    let requires = rw (← c.self.view_is) at c.requires in
    rw (← c.self.view_is) (held_is (hand_of c.args.worker c.self.inside.workers.seen.hands) (hand_by c.args.worker c.in-Some.field-0.now) (hand_by c.args.worker c.args.brief.now) c.in-Some.ensures.some requires.hand)
