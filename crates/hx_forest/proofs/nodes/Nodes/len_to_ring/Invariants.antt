use Rattle.std.proofs.Common.{◌≡◌, ◌+◌, length}
use Rattle.hx_model.specs.Forest.{chain_of}
use Rattle.hx_forest.specs.Inside.{chain_count}
use Rattle.hx_forest.specs.ParentRefs.{forest_of}
use Rattle.hx_forest.proofs.nodes.Nodes.len_to_ring.Given as goal

-- the members that are passed, and the count of those from here on
abbrev pub invariant-loop-left : goal.invariant-loop-left
invariant-loop-left l = (l.passed + chain_count l.left (forest_of l.self) l.member ≡ length (chain_of (forest_of l.self) l.name)) × (l.passed + l.left ≡ length (forest_of l.self))

abbrev pub decreases-loop-left : goal.decreases-loop-left
decreases-loop-left l = l.left
