use Rattle.hx_http.proofs.Streams.{stream_steps}
use Rattle.hx_http.proofs.law.law_of_streams.Goals as goal

pub returns : goal.returns
returns c = stream_steps
