use Rattle.hx_model.specs.Hands.{hand_of}
use Rattle.hx_reconcile.specs.Briefs.{hand_by}
use Rattle.hx_core.specs.Inside.{view_of}
use Rattle.hx_core.proofs.Finishing.{ends_nothing, done_nothing}
use Rattle.hx_core.proofs.cluster.Cluster.end_idle.Goals as goal

pub let_go-requires : goal.let_go-requires
let_go-requires g c =
    let requires = rw (← c.self.view_is) at c.requires in
    rw (← c.self.view_is) (λ _. done_nothing c.self.inside.state.state (hand_of c.args.worker c.self.inside.workers.seen.hands) (hand_by c.args.worker c.args.brief.now) requires.hand requires.planned)

pub returns : goal.returns
returns g c =
    let requires = rw (← c.self.view_is) at c.requires in
    let released = rw (← c.self.view_is) at c.let_go.ensures.released in
    rw (← c.self.view_is) (ends_nothing (view_of c.self.inside.state.state c.self.inside.workers.seen (g.K.Keeper.shown c.self.inside.keeper)) c.let_go.new.self c.args.worker (hand_by c.args.worker c.args.brief.now) c.self.invariant.sound.world requires.hand requires.planned released c.let_go.ensures.empty)
