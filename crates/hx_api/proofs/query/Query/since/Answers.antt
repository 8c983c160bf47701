use Rattle.std.proofs.Common.{◌∙◌}
use Rattle.hx_api.proofs.Said.{number}
use Rattle.hx_api.proofs.query.Query.since.Goals as goal

pub returns : goal.returns
returns c = rw (← c.self.view_is) (c.unwrap_or.ensures ∙ number c.self.inside.said _ c.self.invariant.says)
