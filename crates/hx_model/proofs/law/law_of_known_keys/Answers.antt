use Rattle.hx_model.proofs.Knowing.{speaks_of_keys_alone}
use Rattle.hx_model.proofs.law.law_of_known_keys.Goals as goal

pub returns : goal.returns
returns c = record { known = speaks_of_keys_alone }
