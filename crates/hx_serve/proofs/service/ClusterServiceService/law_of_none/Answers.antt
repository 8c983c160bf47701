use Rattle.hx_serve.proofs.Making.{HasAnswered-none}
use Rattle.hx_serve.proofs.service.ClusterServiceService.law_of_none.Goals as goal

pub returns : goal.returns
returns g c = λ state. HasAnswered-none state
