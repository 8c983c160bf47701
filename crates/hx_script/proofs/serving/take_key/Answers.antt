use Rattle.std.proofs.Common.{Some}
use Rattle.hx_core.specs.Turns.{take_key_entry}
use Rattle.hx_script.specs.declared.order.Order.TheVariants as order
use Rattle.hx_script.proofs.Idling.{idle_after, take_key_other}
use Rattle.hx_script.proofs.Making.{Serves-turn, take_key_is}
use Rattle.hx_script.proofs.serving.take_key.Goals as goal

pub returns-clause-serves : goal.returns-clause-serves
returns-clause-serves g c =
    let is = take_key_is c.args.worker c.args.key c.take_key-take.result in
    Serves-turn (order.Take c.args.worker (Some c.args.key)) (take_key_entry c.args.worker c.args.key c.take_key-take.result) _ _ _ _ _ is.0 is.1 c.take_key-take.ensures.simulates (c.say_take_key-said.ensures c.args.key c.take_key-take.ensures.key)

pub returns-clause-idle : goal.returns-clause-idle
returns-clause-idle g c = idle_after _ _ (take_key_entry c.args.worker c.args.key c.take_key-take.result) c.take_key-take.ensures.simulates (take_key_other c.args.worker c.args.key c.take_key-take.result c.requires.worker) c.requires.idle
