use Rattle.hx_marks.proofs.Settling.{nothing_wanted, settled_exactly}
use Rattle.hx_marks.proofs.law.law_of_settled.Goals as goal

pub returns : goal.returns
returns c s valid = (nothing_wanted s valid, settled_exactly s valid)
