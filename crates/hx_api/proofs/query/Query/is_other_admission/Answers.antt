use Rattle.std.proofs.Common.{not, ap, ◌∙◌}
use Rattle.hx_api.proofs.Said.{other_admission}
use Rattle.hx_api.proofs.query.Query.is_other_admission.Goals as goal

pub returns : goal.returns
returns c = rw (← c.self.view_is) (ap not c.unwrap_or.ensures ∙ other_admission c.self.inside.said _ c.self.invariant.says)
