use Rattle.std.proofs.Common.{◌≡◌, ◌++◌, drop, filter}
use Rattle.hx_model.specs.Forest.{names_of, in_chain, subtree_of}
use Rattle.hx_model.proofs.plain.subtree_of.Given as goal

-- the names so far, and those that the rest gives
abbrev pub invariant-loop-entry : goal.invariant-loop-entry
invariant-loop-entry l = l.names.items ++ filter (λ n. in_chain l.nodes n l.ancestor) (names_of (drop l.entry-index l.nodes)) ≡ subtree_of l.nodes l.ancestor
