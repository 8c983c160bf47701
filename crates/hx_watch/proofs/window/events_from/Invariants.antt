use Rattle.std.proofs.Common.{◌≡◌, ◌++◌, drop}
use Rattle.hx_watch.proofs.window.events_from.Given as goal

abbrev pub invariant-loop-index : goal.invariant-loop-index
invariant-loop-index l = l.events.items ++ drop l.index l.ring.items ≡ drop l.start l.ring.items
