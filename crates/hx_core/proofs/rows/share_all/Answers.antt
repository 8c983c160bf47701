use Rattle.std.proofs.Common.{◌∙◌}
use Rattle.std.proofs.lemmas.List.{take_all}
use Rattle.hx_core.proofs.Batching.{shared_next}
use Rattle.hx_core.proofs.rows.share_all.Goals as goal

pub loop-event-preserved : goal.loop-event-preserved
loop-event-preserved c =
    shared_next c.args.events.now c.loop-event.event-index c.loop-event.shared.items c.push.new.self.items c.event-item.result c.in_ok-share.field-0 c.loop-event.invariant c.loop-event-test.true c.event-item.is c.in_ok-share.ensures c.in_ok-push.ensures.items

pub returns : goal.returns
returns c = c.of.ensures ∙ c.loop-event.invariant ∙ take_all c.loop-event.event-index c.args.events.now c.loop-event-test.false
