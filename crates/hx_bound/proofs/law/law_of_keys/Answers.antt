use Rattle.hx_bound.proofs.Counting.{keys_count}
use Rattle.hx_bound.proofs.KeysStaying.{keys_stay}
use Rattle.hx_bound.proofs.law.law_of_keys.Goals as goal

pub returns-clause-stay : goal.returns-clause-stay
returns-clause-stay c = keys_stay

pub returns-clause-count : goal.returns-clause-count
returns-clause-count c = keys_count
