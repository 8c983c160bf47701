use Rattle.hx_ports.proofs.Telling.{told_none, told_next, told_all}
use Rattle.hx_ports.proofs.followed.publish_all.Goals as goal

pub loop-event-init : goal.loop-event-init
loop-event-init g c = told_none c.args.hub.now

pub loop-event-preserved : goal.loop-event-preserved
loop-event-preserved g c = told_next c.args.events.now c.loop-event.event-index c.event-item.result c.args.hub.now c.loop-event.hub c.publish.new.self c.loop-event-test.true c.event-item.is c.loop-event.invariant c.publish.ensures

pub returns : goal.returns
returns g c = told_all c.args.events.now c.loop-event.event-index c.args.hub.now c.loop-event.hub c.loop-event-test.false c.loop-event.invariant
