use Rattle.hx_report.proofs.OneLine.{has_one_line}
use Rattle.hx_report.proofs.laws.law_of_lines.Goals as goal

pub returns : goal.returns
returns c = has_one_line
