use Rattle.std.proofs.Common.{ap, unwrap_or, false, ◌∙◌}
use Rattle.hx_api.proofs.Said.{given}
use Rattle.hx_api.proofs.query.Query.is_given.Goals as goal

pub returns : goal.returns
returns c = rw (← c.self.view_is) ((c.unwrap_or.ensures ∙ ap (λ o. unwrap_or o false) c.given.ensures) ∙ given c.self.inside.said _ c.args.parameter c.self.invariant.says)
