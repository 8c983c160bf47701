use Rattle.hx_shared.proofs.Seating.{left_by}
use Rattle.hx_shared.proofs.shared.Shared.close.Goals as goal

pub returns : goal.returns
returns g c = left_by c.args.seat.me.0 c.close-cluster.result.cluster.value _ c.close-cluster.ensures c.into_inner.ensures
