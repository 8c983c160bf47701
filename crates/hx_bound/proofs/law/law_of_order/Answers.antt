use Rattle.hx_bound.proofs.Ranking.{keys_are_ranked}
use Rattle.hx_bound.proofs.law.law_of_order.Goals as goal

pub returns : goal.returns
returns c = record { levels = keys_are_ranked }
