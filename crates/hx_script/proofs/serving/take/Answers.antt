use Rattle.std.proofs.Common.{None}
use Rattle.hx_core.specs.Turns.{take_entry}
use Rattle.hx_script.specs.declared.order.Order.TheVariants as order
use Rattle.hx_script.proofs.Idling.{idle_after, take_other}
use Rattle.hx_script.proofs.Making.{Serves-turn, take_is}
use Rattle.hx_script.proofs.serving.take.Goals as goal

pub returns-clause-serves : goal.returns-clause-serves
returns-clause-serves g c =
    let is = take_is c.args.worker c.take-take.result in
    Serves-turn (order.Take c.args.worker None) (take_entry c.args.worker c.take-take.result) _ _ _ _ _ is.0 is.1 c.take-take.ensures.simulates c.say_take-said.ensures

pub returns-clause-idle : goal.returns-clause-idle
returns-clause-idle g c = idle_after _ _ (take_entry c.args.worker c.take-take.result) c.take-take.ensures.simulates (take_other c.args.worker c.take-take.result c.requires.worker) c.requires.idle
