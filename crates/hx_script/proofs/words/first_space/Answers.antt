use Rattle.std.proofs.Common.{◌∙◌, ap}
use Rattle.hx_script.specs.Words.{first_space}
use Rattle.hx_script.proofs.Spaces.{found_first}
use Rattle.hx_script.proofs.words.first_space.Goals as goal

pub returns : goal.returns
returns c = found_first _ _ c.memchr.ensures ∙ ap first_space c.as_bytes.ensures.value
