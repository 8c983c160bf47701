use Rattle.std.proofs.Common.{◌≡◌}
use Rattle.std.specs.Vec.Iter.{into_iter_items}
use Rattle.hx_audit.specs.Candidates.{least_from}
use Rattle.hx_audit.proofs.least.least_of.Given as goal

-- the least so far and the rest have the least of all
abbrev pub invariant-loop-key : goal.invariant-loop-key
invariant-loop-key l = least_from l.best (into_iter_items l.key-iterator) ≡ least_from l.fn.best (into_iter_items l.initial.key-iterator)
