use Rattle.std.proofs.Common.{◌≡◌, ◌<◌, ◌∙◌, arith, subst}
use Rattle.hx_serve.specs.Visits.{most_links}
use Rattle.hx_serve.proofs.Visiting.{served-none, served-more, serves-enough, serves-closed, serves-fault, served_calm, closes_calm, fault_cause, calm_cause}
use Rattle.hx_serve.proofs.links.serve.Goals as goal

pub serving-init : goal.serving-init
serving-init g c = record { few = omega arith; served = served-none c.args.service.now (g.D.Door.shown c.args.door.now) }

pub serving-preserved : goal.serving-preserved
serving-preserved g c =
    let hands = rw (c.in-Ok-Some.field-0-is) at c.in-Ok-Some.ensures.link in
    record {
      few = omega arith;
      served = served-more c.serving.served c.serve_one-end.result _ _ _ _ _ _ _ _ _ c.serving.invariant.served hands c.serve_one-end.ensures;
    }

-- the door failed
pub returns-in-Err-clause-serves : goal.returns-in-Err-clause-serves
returns-in-Err-clause-serves g c =
    let fewer : c.serving.served < most_links c.args.links = subst (λ n. c.serving.served < n) c.unwrap_or-most.ensures c.serving-test.true in
    serves-fault c.args.links c.serving.served c.in-Err.fault _ _ _ _ _ c.serving.invariant.served fewer c.in-Err.ensures.fault

pub returns-in-Err-clause-cause : goal.returns-in-Err-clause-cause
returns-in-Err-clause-cause g c = fault_cause _ _ _ c.in-Err.fault (served_calm c.serving.served _ _ _ _ c.serving.invariant.served) c.in-Err.ensures.cause

-- it is closed
pub returns-in-Ok-None-clause-serves : goal.returns-in-Ok-None-clause-serves
returns-in-Ok-None-clause-serves g c =
    let fewer : c.serving.served < most_links c.args.links = subst (λ n. c.serving.served < n) c.unwrap_or-most.ensures c.serving-test.true in
    let closes = rw (c.in-Ok-None.field-0-is) at c.in-Ok-None.ensures.closed in
    serves-closed c.args.links c.serving.served _ _ _ _ _ c.serving.invariant.served fewer closes

pub returns-in-Ok-None-clause-cause : goal.returns-in-Ok-None-clause-cause
returns-in-Ok-None-clause-cause g c =
    let closes = rw (c.in-Ok-None.field-0-is) at c.in-Ok-None.ensures.closed in
    calm_cause _ _ c.serving.served (closes_calm _ _ closes ∙ served_calm c.serving.served _ _ _ _ c.serving.invariant.served)

-- all that were wanted were served
pub returns-clause-serves : goal.returns-clause-serves
returns-clause-serves g c =
    let all : c.serving.served ≡ c.unwrap_or-most.result = omega (arith, c.serving.invariant.few, c.serving-test.false) in
    let enough : c.serving.served ≡ most_links c.args.links = all ∙ c.unwrap_or-most.ensures in
    serves-enough c.args.links c.serving.served _ _ _ _ c.serving.invariant.served enough

pub returns-clause-cause : goal.returns-clause-cause
returns-clause-cause g c = calm_cause _ _ c.serving.served (served_calm c.serving.served _ _ _ _ c.serving.invariant.served)
