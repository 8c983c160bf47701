use Rattle.std.proofs.Common.{refl}
use Rattle.hx_core.proofs.Settled.{turn_lacks}
use Rattle.hx_core.proofs.Turning.{loses}
use Rattle.hx_core.proofs.cluster.Cluster.turn_next.Goals as goal

pub returns-in-Err : goal.returns-in-Err
returns-in-Err g c = turn_lacks c.args.self.now c.args.self.now refl c.requires.nothing (loses c.args.self.now c.args.self.now 0 c.law_of_worlds.ensures.world refl)
