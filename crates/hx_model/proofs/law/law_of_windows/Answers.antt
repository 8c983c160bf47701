use Rattle.hx_model.proofs.Lasting.{come-in-parts, keep-newest, raise-floor, lose-nothing}
use Rattle.hx_model.proofs.law.law_of_windows.Goals as goal

pub returns-clause-parts : goal.returns-clause-parts
returns-clause-parts c = come-in-parts

pub returns-clause-newest : goal.returns-clause-newest
returns-clause-newest c = keep-newest

pub returns-clause-floor : goal.returns-clause-floor
returns-clause-floor c = raise-floor

pub returns-clause-whole : goal.returns-clause-whole
returns-clause-whole c = lose-nothing
