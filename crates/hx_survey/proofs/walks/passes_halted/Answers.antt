use Rattle.std.proofs.Common.{rules, ◌≡◌, ◌-◌, ◌∙◌, ap, false, is_some}
use Rattle.hx_survey.specs.Inside.{halt_at, walk_at}
use Rattle.hx_survey.proofs.Walked.{walk_step}
use Rattle.hx_survey.proofs.walks.passes_halted.Goals as goal

pub loop-left-preserved : goal.loop-left-preserved
loop-left-preserved c =
    let out : is_some (halt_at c.args.halts.now c.in-Some.place) ≡ false = search rules in
    ap (λ at. walk_at (λ place. is_some (halt_at c.args.halts.now place)) (c.loop-left.left - 1) c.args.ups.now at) c.up_from-at.ensures
    ∙ walk_step (λ place. is_some (halt_at c.args.halts.now place)) c.loop-left.left c.args.ups.now c.loop-left.at c.in-Some.place c.loop-left-test.true c.in-Some.is out
    ∙ c.loop-left.invariant
