use Rattle.std.proofs.Common.{◌==◌, ◌-◌, ◌∙◌, ap}
use Rattle.hx_survey.specs.Inside.{walk_at}
use Rattle.hx_survey.proofs.Walked.{walk_step, not_one}
use Rattle.hx_survey.proofs.walks.passes.Goals as goal

pub loop-left-preserved : goal.loop-left-preserved
loop-left-preserved c =
    ap (λ at. walk_at (λ place. place == c.args.sought) (c.loop-left.left - 1) c.args.ups.now at) c.up_from-at.ensures
    ∙ walk_step (λ place. place == c.args.sought) c.loop-left.left c.args.ups.now c.loop-left.at c.in-Some.place c.loop-left-test.true c.in-Some.is (not_one c.in-Some.place c.args.sought c.if-place-sought.false)
    ∙ c.loop-left.invariant
