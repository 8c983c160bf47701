use Rattle.hx_serve.proofs.Making.{HasAnswered-refused}
use Rattle.hx_serve.proofs.service.ClusterServiceService.law_of_refused.Goals as goal

pub returns : goal.returns
returns g c = λ state fault. HasAnswered-refused state fault
