use Rattle.hx_briefs.proofs.Wanting.{wanted_by}
use Rattle.hx_briefs.proofs.marking.plan_of.Goals as goal

pub returns-in-Ok : goal.returns-in-Ok
returns-in-Ok c =
    wanted_by c.args.state.now.state c.args.key.now c.in_ok-bare_brief.field-0 c.in_ok-brief.brief c.in-Ok.made.write c.in-Ok.ensures.planned c.in_ok-brief.ensures c.in_ok-bare_brief.ensures.key c.in_ok-bare_brief.ensures.facts
