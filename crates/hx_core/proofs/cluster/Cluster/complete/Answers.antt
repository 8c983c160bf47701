use Rattle.hx_core.specs.Inside.{view_of}
use Rattle.hx_core.proofs.Finishing.{ends_empty}
use Rattle.hx_core.proofs.cluster.Cluster.complete.Goals as goal

pub returns-in-None-clause-simulates : goal.returns-in-None-clause-simulates
returns-in-None-clause-simulates g c = rw (← c.self.view_is) (ends_empty (view_of c.self.inside.state.state c.self.inside.workers.seen (g.K.Keeper.shown c.self.inside.keeper)) c.args.worker c.self.invariant.sound.world c.in-None.ensures.none).simulates
