use Rattle.std.proofs.Common.{◌≡◌, ◌≤◌, take, drop, length}
use Rattle.hx_queue.specs.Spread.{place_keys, waiting_in}
use Rattle.hx_queue.proofs.spread.mark_places.Given as goal

-- the keys so far came in line, and there is room for the others
abbrev pub invariant-loop-name : goal.invariant-loop-name
invariant-loop-name l = record {
  ranks : l.queue.ranks ≡ l.fn.queue.ranks;
  held : l.queue.held ≡ l.fn.queue.held;
  lined : l.queue.waiting ≡ waiting_in l.fn.queue.waiting (place_keys (take l.name-index l.names) l.id);
  room : length (drop l.name-index l.names) ≤ l.queue.spare;
}
