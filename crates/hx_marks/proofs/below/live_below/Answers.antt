use Rattle.std.proofs.Common.{◌∙◌}
use Rattle.hx_marks.proofs.Eligible.{all_live}
use Rattle.hx_marks.proofs.below.live_below.Goals as goal

pub returns-then-not-may_be_restless : goal.returns-then-not-may_be_restless
returns-then-not-may_be_restless c = c.in_ok-below.ensures ∙ all_live c.args.forest.now.nodes c.args.name.now (c.may_be_restless.ensures c.if-not-may_be_restless.true)
