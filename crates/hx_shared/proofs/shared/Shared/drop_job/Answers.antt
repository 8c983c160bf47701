use Rattle.std.proofs.Common.{option_map, refl}
use Rattle.hx_reconcile.specs.declared.brief.Brief.{Brief}
use Rattle.hx_shared.specs.declared.call.Call.TheVariants as call
use Rattle.hx_shared.proofs.shared.Shared.drop_job.Goals as goal

pub returns-clause-ended : goal.returns-clause-ended
returns-clause-ended g c = (call.Drop c.args.worker (option_map (λ (brief : Brief). brief.key) c.drop_hand-dropped.result), refl, refl, c.drop_hand-dropped.ensures.adds)
