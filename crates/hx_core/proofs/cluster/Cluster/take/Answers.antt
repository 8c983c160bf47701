use Rattle.hx_core.specs.Inside.{view_of}
use Rattle.hx_core.proofs.Turning.{take_kept}
use Rattle.hx_core.proofs.cluster.Cluster.take.Goals as goal

pub returns-in-Some-clause-simulates : goal.returns-in-Some-clause-simulates
returns-in-Some-clause-simulates g c = rw (← c.self.view_is) (take_kept (view_of c.self.inside.state.state c.self.inside.workers.seen (g.K.Keeper.shown c.self.inside.keeper)) c.args.worker c.in-Some.brief.now c.already.result c.self.invariant.sound.world c.in-Some.ensures.some c.already.ensures).simulates

pub returns-in-Some-clause-hand : goal.returns-in-Some-clause-hand
returns-in-Some-clause-hand g c = rw (← c.self.view_is) (take_kept (view_of c.self.inside.state.state c.self.inside.workers.seen (g.K.Keeper.shown c.self.inside.keeper)) c.args.worker c.in-Some.brief.now c.already.result c.self.invariant.sound.world c.in-Some.ensures.some c.already.ensures).hand

pub returns-in-Some-clause-idle : goal.returns-in-Some-clause-idle
returns-in-Some-clause-idle g c = rw (← c.self.view_is) (take_kept (view_of c.self.inside.state.state c.self.inside.workers.seen (g.K.Keeper.shown c.self.inside.keeper)) c.args.worker c.in-Some.brief.now c.already.result c.self.invariant.sound.world c.in-Some.ensures.some c.already.ensures).idle

pub returns-in-Some-clause-unnamed : goal.returns-in-Some-clause-unnamed
returns-in-Some-clause-unnamed g c = (take_kept (view_of c.self.inside.state.state c.self.inside.workers.seen (g.K.Keeper.shown c.self.inside.keeper)) c.args.worker c.in-Some.brief.now c.already.result c.self.invariant.sound.world c.in-Some.ensures.some c.already.ensures).unnamed
