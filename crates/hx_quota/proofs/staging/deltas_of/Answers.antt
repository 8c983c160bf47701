use Rattle.std.proofs.Common.{◌≡◌, ◌∙◌, List, ap, subst, IfOk}
use Rattle.hx_object.specs.declared.object.Id.{Id}
use Rattle.hx_model.specs.Charges.{resources_for}
use Rattle.hx_model.specs.State.{object_at}
use Rattle.hx_quota.specs.declared.entry.Delta.{Delta}
use Rattle.hx_quota.specs.SubtreeUsage.{deltas_among}
use Rattle.hx_quota.proofs.DeltasAmong.{deltas_same}
use Rattle.hx_quota.proofs.staging.deltas_of.Goals as goal

pub returns : goal.returns
returns c =
    let objects = c.args.store.now.objects in
    let id = c.id-id.ensures in
    let kinds = c.resources_for.ensures ∙ ap (λ (k : Id). resources_for k.kind) id in
    let old = c.object_in-old.ensures ∙ c.get.ensures ∙ ap (object_at objects) id in
    let new = c.object_in-new.ensures ∙ c.object.ensures in
    subst (λ (ds : List Delta). IfOk c.deltas_among.result (λ deltas. deltas.items ≡ ds)) ((λ i. deltas_among (kinds i) (old i) (new i)) ∙ deltas_same objects c.args.write.now) c.deltas_among.ensures
