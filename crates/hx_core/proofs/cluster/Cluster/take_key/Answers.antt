use Rattle.hx_core.specs.Inside.{view_of}
use Rattle.hx_core.proofs.Turning.{named_kept}
use Rattle.hx_core.proofs.cluster.Cluster.take_key.Goals as goal

pub returns-in-Some-clause-simulates : goal.returns-in-Some-clause-simulates
returns-in-Some-clause-simulates g c = rw (← c.self.view_is) (named_kept (view_of c.self.inside.state.state c.self.inside.workers.seen (g.K.Keeper.shown c.self.inside.keeper)) c.args.worker c.args.key c.in-Some.brief.now c.already.result c.self.invariant.sound.world c.in-Some.ensures.some c.already.ensures).simulates

pub returns-in-Some-clause-hand : goal.returns-in-Some-clause-hand
returns-in-Some-clause-hand g c = rw (← c.self.view_is) (named_kept (view_of c.self.inside.state.state c.self.inside.workers.seen (g.K.Keeper.shown c.self.inside.keeper)) c.args.worker c.args.key c.in-Some.brief.now c.already.result c.self.invariant.sound.world c.in-Some.ensures.some c.already.ensures).hand

pub returns-in-Some-clause-key : goal.returns-in-Some-clause-key
returns-in-Some-clause-key g c = (named_kept (view_of c.self.inside.state.state c.self.inside.workers.seen (g.K.Keeper.shown c.self.inside.keeper)) c.args.worker c.args.key c.in-Some.brief.now c.already.result c.self.invariant.sound.world c.in-Some.ensures.some c.already.ensures).key

pub returns-in-Some-clause-busy : goal.returns-in-Some-clause-busy
returns-in-Some-clause-busy g c = (named_kept (view_of c.self.inside.state.state c.self.inside.workers.seen (g.K.Keeper.shown c.self.inside.keeper)) c.args.worker c.args.key c.in-Some.brief.now c.already.result c.self.invariant.sound.world c.in-Some.ensures.some c.already.ensures).busy
