use Rattle.std.proofs.Common.{rules}
use Rattle.std.specs.Fmt.{digits}
use Rattle.serde_json.proofs.OnLiterals.{serde_json_on_literals}
use Rattle.hx_model.specs.Replies.{status_text}
use Rattle.hx_script.specs.Replies.{line_of}
use Rattle.hx_script.proofs.answer_line.not_served.Goals as goal

pub returns : goal.returns
unfolding status_text line_of digits serde_json_on_literals
returns c = search rules
