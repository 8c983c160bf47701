use Rattle.std.proofs.Common.{take}
use Rattle.hx_state.specs.Planning.{IsPlan}
use Rattle.hx_state.proofs.indexed_state.IndexedState.plan.Given as goal

-- the numbers, and the changes of the tree and of the owners, of the first writes
abbrev pub invariant-loop-write : goal.invariant-loop-write
invariant-loop-write l = IsPlan l.self.state (take l.write-index l.writes) l.counts l.tree.items l.owners.items
