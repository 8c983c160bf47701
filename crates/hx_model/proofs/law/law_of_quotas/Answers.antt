use Rattle.hx_model.proofs.Admitting.{held_at_admission}
use Rattle.hx_model.proofs.Freely.{keys_raise_nothing, deletions_raise_nothing}
use Rattle.hx_model.proofs.Overrunning.{holds_throughout}
use Rattle.hx_model.proofs.Rising.{rises_by_charges_alone}
use Rattle.hx_model.proofs.Tearing.{holds_after_fault}
use Rattle.hx_model.proofs.law.law_of_quotas.Goals as goal

pub returns-clause-admitted : goal.returns-clause-admitted
returns-clause-admitted c = held_at_admission

pub returns-clause-rises : goal.returns-clause-rises
returns-clause-rises c = rises_by_charges_alone

pub returns-clause-keys : goal.returns-clause-keys
returns-clause-keys c = keys_raise_nothing

pub returns-clause-deletions : goal.returns-clause-deletions
returns-clause-deletions c = deletions_raise_nothing

pub returns-clause-throughout : goal.returns-clause-throughout
returns-clause-throughout c = holds_throughout

pub returns-clause-fault : goal.returns-clause-fault
returns-clause-fault c = holds_after_fault
