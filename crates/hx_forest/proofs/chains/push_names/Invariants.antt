use Rattle.std.proofs.Common.{◌≡◌, ◌++◌, drop}
use Rattle.hx_forest.proofs.chains.push_names.Given as goal

-- the names so far, and the rest
abbrev pub invariant-loop-name : goal.invariant-loop-name
invariant-loop-name l = l.list.items ++ drop l.name-index l.names ≡ l.initial.list.items ++ l.names
