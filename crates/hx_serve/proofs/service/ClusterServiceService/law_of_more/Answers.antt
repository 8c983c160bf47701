use Rattle.hx_serve.proofs.Making.{HasAnswered-then}
use Rattle.hx_serve.proofs.service.ClusterServiceService.law_of_more.Goals as goal

pub returns : goal.returns
returns g c = λ a b d first then. HasAnswered-then a b d first then
