use Rattle.hx_http.proofs.Spans.{law_of_heads}
use Rattle.hx_http.proofs.law.law_of_heads.Goals as goal

pub returns : goal.returns
returns c = law_of_heads
