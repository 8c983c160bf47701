use Rattle.hx_serve.proofs.Settling.{settles}
use Rattle.hx_serve.proofs.service.ClusterService.settle.Goals as goal

pub returns : goal.returns
returns g c = rw (← c.self.view_is) (settles c.args.turns _ _ c.settle-end.ensures.made.0 c.settle-end.result c.settle-end.ensures.made.2 c.settle-end.ensures.made.4)
