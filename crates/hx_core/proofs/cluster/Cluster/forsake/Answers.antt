use Rattle.hx_core.specs.Inside.{view_of}
use Rattle.hx_core.proofs.Finishing.{ends_lost}
use Rattle.hx_core.proofs.cluster.Cluster.forsake.Goals as goal

pub returns : goal.returns
returns g c =
    let requires = rw (← c.self.view_is) at c.requires in
    let released = rw (← c.self.view_is) at c.let_go.ensures.released in
    rw (← c.self.view_is) (ends_lost (view_of c.self.inside.state.state c.self.inside.workers.seen (g.K.Keeper.shown c.self.inside.keeper)) c.let_go.new.self c.args.worker c.self.invariant.sound.world requires released c.let_go.ensures.empty)
