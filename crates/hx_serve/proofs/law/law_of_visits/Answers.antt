use Rattle.hx_serve.proofs.Telling.{tells_scripts, tells_texts}
use Rattle.hx_serve.proofs.law.law_of_visits.Goals as goal

pub returns : goal.returns
returns c = λ old new visits each visited. (tells_scripts visits old new visited, tells_texts visits old new each visited)
