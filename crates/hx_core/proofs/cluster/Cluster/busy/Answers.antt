use Rattle.hx_core.specs.Inside.{view_of}
use Rattle.hx_core.proofs.Keeping.{counts}
use Rattle.hx_core.proofs.cluster.Cluster.busy.Goals as goal

pub returns-clause-simulates : goal.returns-clause-simulates
returns-clause-simulates g c = rw (← c.self.view_is) (counts (view_of c.self.inside.state.state c.self.inside.workers.seen (g.K.Keeper.shown c.self.inside.keeper)) c.waiting.result c.held.result c.self.invariant.sound.world c.self.invariant.sound.valid c.self.invariant.sound.covered c.law_apart.ensures c.waiting.ensures c.held.ensures)
