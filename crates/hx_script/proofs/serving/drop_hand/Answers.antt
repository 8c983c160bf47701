use Rattle.std.proofs.Common.{refl, option_map}
use Rattle.hx_model.specs.Machine.{Dropped}
use Rattle.hx_reconcile.specs.declared.brief.Brief.{Brief}
use Rattle.hx_script.specs.declared.order.Order.TheVariants as order
use Rattle.hx_script.proofs.Idling.{idle_after}
use Rattle.hx_script.proofs.Making.{Serves-turn}
use Rattle.hx_script.proofs.serving.drop_hand.Goals as goal

pub returns-clause-serves : goal.returns-clause-serves
returns-clause-serves g c =
    let k = option_map (λ (brief : Brief). brief.key) c.drop_hand-dropped.result in
    Serves-turn (order.Drop c.args.worker) (Dropped c.args.worker k) _ _ _ _ _ (k, refl) refl c.drop_hand-dropped.ensures.simulates c.say_drop-said.ensures

pub returns-clause-idle : goal.returns-clause-idle
returns-clause-idle g c = idle_after _ _ (Dropped c.args.worker (option_map (λ (brief : Brief). brief.key) c.drop_hand-dropped.result)) c.drop_hand-dropped.ensures.simulates tt c.requires
