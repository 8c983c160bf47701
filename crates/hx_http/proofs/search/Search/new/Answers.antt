use Rattle.std.proofs.Common.{take}
use Rattle.hx_http.specs.Messages.{most_front_bytes}
use Rattle.hx_http.proofs.search.Search.new.Goals as goal

pub returns : goal.returns
returns c = λ bytes. c.new.ensures (take most_front_bytes bytes)
