use Rattle.hx_core.proofs.Batching.{batched_none, batched_put, batched_cut, batch_whole, cloned}
use Rattle.hx_core.proofs.rows.batch_of.Goals as goal
use Rattle.hx_core.proofs.rows.batch_of.Goals.{in-Some+in_ok-share-in-Some+in_ok-push-in-Some, in-None+in_ok-clone-in-None+in_ok-push-in-None}

pub loop-change-init : goal.loop-change-init
loop-change-init c = batched_none c.args.writes.now c.new-puts.result.items c.new-cuts.result.items c.new-puts.ensures.items c.new-cuts.ensures.items

pub loop-change-preserved : goal.loop-change-preserved
loop-change-preserved c = elim c.match-object.branch [
  | in-Some+in_ok-share-in-Some+in_ok-push-in-Some w ↦ rw (w.puts-is, w.cuts-is) (batched_put c.args.writes.now c.loop-change.change-index c.loop-change.puts.items w.push.new.self.items c.loop-change.cuts.items c.change-item.result w.in-Some.object.now w.in_ok-share-in-Some.field-0 c.loop-change.invariant c.loop-change-test.true c.change-item.is
      w.in-Some.ensures w.in_ok-share-in-Some.ensures w.in_ok-push-in-Some.ensures.items)
  | in-None+in_ok-clone-in-None+in_ok-push-in-None w ↦ rw (w.puts-is, w.cuts-is) (batched_cut c.args.writes.now c.loop-change.change-index c.loop-change.puts.items c.loop-change.cuts.items w.push-in-None.new.self.items c.change-item.result w.in_ok-clone-in-None.field-0 c.loop-change.invariant c.loop-change-test.true c.change-item.is
      w.in-None.ensures (cloned w.in_ok-clone-in-None.field-0 w.id.result.now _ w.in_ok-clone-in-None.ensures.cases w.id.ensures) w.in_ok-push-in-None.ensures.items)
]

pub returns : goal.returns
returns c = batch_whole c.args.writes.now c.loop-change.change-index c.args.version _ c.of.result _ c.of-2.result c.args.events.now c.in_ok-events.events c.loop-change.invariant c.loop-change-test.false c.of.ensures c.of-2.ensures c.in_ok-events.ensures
