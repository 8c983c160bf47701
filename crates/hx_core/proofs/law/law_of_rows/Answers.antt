use Rattle.hx_core.proofs.Reopening.{tells_state, undamaged_rows}
use Rattle.hx_core.proofs.law.law_of_rows.Goals as goal

pub returns-clause-undamaged : goal.returns-clause-undamaged
returns-clause-undamaged c = undamaged_rows

pub returns-clause-tell : goal.returns-clause-tell
returns-clause-tell c = tells_state
