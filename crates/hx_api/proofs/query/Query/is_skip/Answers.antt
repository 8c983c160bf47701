use Rattle.std.proofs.Common.{◌∙◌}
use Rattle.hx_api.proofs.Said.{skip}
use Rattle.hx_api.proofs.query.Query.is_skip.Goals as goal

pub returns : goal.returns
returns c = rw (← c.self.view_is) (c.unwrap_or.ensures ∙ skip c.self.inside.said _ c.self.invariant.says)
