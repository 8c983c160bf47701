use Rattle.hx_core.proofs.Settled.{rest_by}
use Rattle.hx_core.proofs.cluster.Cluster.rest.Goals as goal

pub returns : goal.returns
returns g c = rest_by c.args.self.now c.busy-counts.result.0 c.busy-counts.result.1 c.rest_of.result c.busy-counts.ensures.simulates c.busy-counts.ensures.waiting c.busy-counts.ensures.held c.rest_of.ensures
