use Rattle.std.proofs.Common.{◌≡◌, ◌≤◌, ◌+◌, not, filter, drop, length}
use Rattle.hx_model.specs.Keys.{is_among}
use Rattle.hx_queue.specs.Spread.{place_keys}
use Rattle.hx_queue.proofs.spread.absent_of.Given as goal

-- what was counted, and what is left, are all
abbrev pub invariant-loop-name : goal.invariant-loop-name
invariant-loop-name l = record {
  sum : l.count + length (filter (λ k. not (is_among k l.queue.waiting)) (place_keys (drop l.name-index l.names) l.id))
      ≡ length (filter (λ k. not (is_among k l.queue.waiting)) (place_keys l.names l.id));
  few : l.count ≤ l.name-index;
}
