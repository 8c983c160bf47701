use Rattle.std.proofs.Common.{refl}
use Rattle.hx_model.specs.Machine.{Checked}
use Rattle.hx_script.specs.declared.order.Order.TheVariants as order
use Rattle.hx_script.proofs.Making.{Serves-turn}
use Rattle.hx_script.proofs.serving.check.Goals as goal

pub returns-clause-serves : goal.returns-clause-serves
returns-clause-serves g c = Serves-turn order.Check (Checked c.busy-waiting.result.0 c.busy-waiting.result.1) _ _ _ _ _ (c.busy-waiting.result.0, c.busy-waiting.result.1, refl) refl c.busy-waiting.ensures.simulates c.say_check.ensures
