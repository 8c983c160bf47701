use Rattle.hx_bound.proofs.EarlyFalls.{early_writes}
use Rattle.hx_bound.proofs.LateOrder.{late_writes}
use Rattle.hx_bound.proofs.law.law_of_writes.Goals as goal

pub returns-clause-early : goal.returns-clause-early
returns-clause-early c = early_writes

pub returns-clause-late : goal.returns-clause-late
returns-clause-late c = late_writes
