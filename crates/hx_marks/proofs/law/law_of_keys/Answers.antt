use Rattle.hx_marks.proofs.Knowing.{wanted_key}
use Rattle.hx_marks.proofs.law.law_of_keys.Goals as goal

pub returns : goal.returns
returns c = wanted_key
