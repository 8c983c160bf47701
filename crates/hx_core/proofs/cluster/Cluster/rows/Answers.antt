use Rattle.std.proofs.Common.{◌≡◌, IfOk, ap, ◌∙◌, subst}
use Rattle.hx_model.specs.State.{ascends}
use Rattle.hx_core.proofs.cluster.Cluster.rows.Goals as goal

pub all_objects-requires : goal.all_objects-requires
all_objects-requires g c = ap ascends c.store.ensures.objects ∙ c.self.invariant.sound.valid.in_order

pub returns : goal.returns
returns g c = rw (← c.self.view_is) (subst (λ os. IfOk c.all_objects.result (λ objects. objects.items ≡ os)) c.store.ensures.objects c.all_objects.ensures)
