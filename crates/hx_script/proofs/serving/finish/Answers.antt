use Rattle.std.proofs.Common.{refl}
use Rattle.hx_model.specs.Machine.{Finished}
use Rattle.hx_script.specs.declared.order.Order.TheVariants as order
use Rattle.hx_script.proofs.Idling.{idle_after}
use Rattle.hx_script.proofs.Making.{Serves-turn}
use Rattle.hx_script.proofs.serving.finish.Goals as goal

pub returns-clause-serves : goal.returns-clause-serves
returns-clause-serves g c = Serves-turn (order.Finish c.args.worker) (Finished c.args.worker c.complete-end.result) _ _ _ _ _ (c.complete-end.result, refl) refl c.complete-end.ensures.simulates c.say_finish.ensures

pub returns-clause-idle : goal.returns-clause-idle
returns-clause-idle g c = idle_after _ _ (Finished c.args.worker c.complete-end.result) c.complete-end.ensures.simulates tt c.requires
