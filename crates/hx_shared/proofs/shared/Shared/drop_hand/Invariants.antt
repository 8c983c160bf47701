use Rattle.std.proofs.Common.{option_map}
use Rattle.hx_reconcile.specs.declared.brief.Brief.{Brief}
use Rattle.hx_shared.specs.declared.call.Call.TheVariants as call
use Rattle.hx_shared.proofs.shared.Shared.drop_hand.Given as goal

abbrev pub ghosts-leave_drop : goal.ghosts-leave_drop
ghosts-leave_drop g a = record { call = call.Drop a.worker (option_map (λ (brief : Brief). brief.key) a.dropped.now) }
