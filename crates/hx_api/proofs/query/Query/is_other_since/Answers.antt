use Rattle.std.proofs.Common.{◌∙◌}
use Rattle.hx_api.proofs.Said.{other_since}
use Rattle.hx_api.proofs.query.Query.is_other_since.Goals as goal

pub returns : goal.returns
returns c = rw (← c.self.view_is) (c.is_no_number.ensures ∙ other_since c.self.inside.said _ c.self.invariant.says)
