use Rattle.std.proofs.Common.{ap, ◌∙◌}
use Rattle.hx_model.specs.Wanted.{wanted_write}
use Rattle.hx_core.proofs.wanted.plan_now.Goals as goal

pub returns-in-Ok : goal.returns-in-Ok
returns-in-Ok c = c.in-Ok.ensures.wanted c.args.state.now.state c.requires c.in_ok-brief.ensures.stands ∙ ap (wanted_write c.args.state.now.state) c.in_ok-brief.ensures.key
