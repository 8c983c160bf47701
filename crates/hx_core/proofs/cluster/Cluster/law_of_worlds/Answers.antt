use Rattle.hx_core.proofs.Keeping.{settled_now}
use Rattle.hx_core.proofs.cluster.Cluster.law_of_worlds.Goals as goal

pub returns-clause-settled : goal.returns-clause-settled
returns-clause-settled g c = rw (← c.self.view_is) (settled_now c.self.inside.state.state c.self.inside.workers.seen c.self.invariant.sound.valid c.self.invariant.sound.covered c.law_apart.ensures)

pub returns-clause-covered : goal.returns-clause-covered
returns-clause-covered g c = rw (← c.self.view_is) c.self.invariant.sound.covered
