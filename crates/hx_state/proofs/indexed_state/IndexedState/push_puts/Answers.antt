use Rattle.std.proofs.Common.{◌++◌, ap, ◌∙◌}
use Rattle.std.specs.Option.{option_to_list}
use Rattle.hx_state.specs.Happening.{put_event}
use Rattle.hx_state.proofs.Telling.{carried}
use Rattle.hx_state.proofs.indexed_state.IndexedState.push_puts.Goals as goal

pub loop-write-preserved : goal.loop-write-preserved
loop-write-preserved c =
    carried (λ w. option_to_list (put_event c.args.self.now.state w)) c.args.writes.now c.loop-write.write-index c.write-item.result
    c.push_event.new.events.items c.loop-write.events.items _ c.loop-write-test.true c.write-item.is
    (c.in_ok-push_event.ensures ∙ ap (λ event. c.loop-write.events.items ++ option_to_list event) c.in_ok-put_event.ensures) c.loop-write.invariant
