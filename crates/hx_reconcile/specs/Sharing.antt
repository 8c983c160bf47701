-- What a shared brief is seen as.
use Rattle.std.specs.Coded.{Coded}
use Rattle.hx_reconcile.specs.contracts.brief.Brief as brief
use Rattle.hx_reconcile.specs.declared.brief.Brief.{Brief}

-- the code of briefs
abbrev pub brief_code : Coded Brief
brief_code = brief.the_row.coded
