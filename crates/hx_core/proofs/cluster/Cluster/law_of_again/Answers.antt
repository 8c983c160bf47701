use Rattle.hx_core.proofs.Keeping.{again_free}
use Rattle.hx_core.proofs.cluster.Cluster.law_of_again.Goals as goal

pub returns : goal.returns
returns g c =
    let requires = rw (← c.self.view_is) at c.requires in
    rw (← c.self.view_is) (again_free c.self.inside.workers.seen c.args.key.now c.law_apart.ensures requires)
