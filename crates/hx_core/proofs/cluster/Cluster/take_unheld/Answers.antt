use Rattle.hx_core.specs.Inside.{view_of}
use Rattle.hx_core.proofs.Turning.{named_met, named_given}
use Rattle.hx_core.proofs.cluster.Cluster.take_unheld.Goals as goal

pub returns-in-Some : goal.returns-in-Some
returns-in-Some g c =
    let requires = rw (← c.self.view_is) at c.requires in
    rw (← c.self.view_is) (named_met (view_of c.self.inside.state.state c.self.inside.workers.seen (g.K.Keeper.shown c.self.inside.keeper)) c.args.worker c.args.key c.in-Some.holder c.self.invariant.sound.world requires c.in-Some.ensures.some)

pub returns-in-None : goal.returns-in-None
returns-in-None g c =
    let requires = rw (← c.self.view_is) at c.requires in
    let again = rw (← c.self.view_is) at c.law_of_again.ensures in
    let given = rw (← c.self.view_is) at c.give.ensures in
    rw (← c.self.view_is) (named_given (view_of c.self.inside.state.state c.self.inside.workers.seen (g.K.Keeper.shown c.self.inside.keeper)) c.give.new.self c.args.worker c.args.key c.give.result c.self.invariant.sound.world requires c.in-None.ensures.none again given)
