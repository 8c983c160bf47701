use Rattle.std.proofs.Common.{◌≤◌, length}
use Rattle.std.specs.Vec.Iter.{into_iter_items}
use Rattle.hx_queue.specs.Kept.{QueueView}
use Rattle.hx_queue.specs.Tied.{MarksEach}
use Rattle.hx_queue.proofs.workers.mark_each.Given as goal

-- the marks that are left do what all of them did, and there is room for them
abbrev pub invariant-loop-key : goal.invariant-loop-key
invariant-loop-key l = record {
  marks : (final : QueueView) → MarksEach (into_iter_items l.key-iterator) l.queue final → MarksEach l.fn.keys.items l.fn.queue final;
  room : length (into_iter_items l.key-iterator) ≤ l.queue.spare;
}
