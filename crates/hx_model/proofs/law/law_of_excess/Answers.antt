use Rattle.hx_model.proofs.Beginning.{excess_begins_only_there, no_excess_by_fault}
use Rattle.hx_model.proofs.Housing.{gives_no_home}
use Rattle.hx_model.proofs.Others.{others_begin_none}
use Rattle.hx_model.proofs.law.law_of_excess.Goals as goal

pub returns-clause-throughout : goal.returns-clause-throughout
returns-clause-throughout c = excess_begins_only_there

pub returns-clause-fault : goal.returns-clause-fault
returns-clause-fault c = no_excess_by_fault

pub returns-clause-homes : goal.returns-clause-homes
returns-clause-homes c = gives_no_home

pub returns-clause-others : goal.returns-clause-others
returns-clause-others c = others_begin_none
