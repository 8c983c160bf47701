use Rattle.std.proofs.Common.{◌≡◌, ◌++◌, drop}
use Rattle.hx_model.specs.Moves.{up_to}
use Rattle.hx_forest.proofs.chains.push_up_to.Given as goal

-- the names so far, and those that the rest gives
abbrev pub invariant-loop-other : goal.invariant-loop-other
invariant-loop-other l = l.list.items ++ up_to l.name (drop l.other-index l.names) ≡ l.initial.list.items ++ up_to l.name l.names
