use Rattle.std.proofs.Common.{refl}
use Rattle.std.specs.Fmt.{digits}
use Rattle.hx_http.specs.Replies.{end_text, failure_text, head_text, length_lines, status_line, type_text, version_text}
use Rattle.hx_http.proofs.fixed.long_target.Goals as goal

pub returns : goal.returns
unfolding digits end_text failure_text head_text length_lines status_line type_text version_text
returns c = refl
