use Rattle.hx_core.specs.Inside.{view_of}
use Rattle.hx_core.proofs.Turning.{drops}
use Rattle.hx_core.proofs.cluster.Cluster.drop_hand.Goals as goal

pub returns-clause-simulates : goal.returns-clause-simulates
returns-clause-simulates g c =
    let released = rw (← c.self.view_is) at c.let_go-dropped.ensures.released in
    let some = rw (← c.self.view_is) at c.let_go-dropped.ensures.some in
    let none = rw (← c.self.view_is) at c.let_go-dropped.ensures.none in
    rw (← c.self.view_is) (drops (view_of c.self.inside.state.state c.self.inside.workers.seen (g.K.Keeper.shown c.self.inside.keeper)) c.let_go-dropped.new.self c.args.worker c.let_go-dropped.result c.self.invariant.sound.world released some none)
