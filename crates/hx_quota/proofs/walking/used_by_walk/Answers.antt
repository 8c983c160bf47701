use Rattle.std.proofs.Common.{◌≡◌, ◌∙◌, None, ap, filter, sum_by}
use Rattle.hx_object.specs.declared.kind.Kind.{Kind}
use Rattle.hx_model.specs.Quotas.{charge_below}
use Rattle.hx_model.specs.State.{is_listed}
use Rattle.hx_model.proofs.Charging.{sum_listed}
use Rattle.hx_quota.proofs.walking.used_by_walk.Goals as goal

pub returns : goal.returns
returns c =
    let f = c.args.forest.now.nodes in
    let objects = c.args.store.now.objects in
    let is : sum_by (charge_below f c.args.ns.now c.args.resource) c.deref.result.now ≡ sum_by (charge_below f c.args.ns.now c.args.resource) objects =
    ap (sum_by (charge_below f c.args.ns.now c.args.resource)) (c.deref.ensures.value ∙ c.in_ok-charged.ensures ∙ ap (λ (k : Kind). filter (is_listed k None) objects) c.kind_for.ensures)
    ∙ sum_listed f c.args.ns.now c.args.resource objects in
    rw (← is) c.sum_below.ensures
