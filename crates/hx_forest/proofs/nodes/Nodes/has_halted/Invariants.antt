use Rattle.std.proofs.Common.{◌≡◌, length}
use Rattle.hx_forest.specs.Inside.{nodes_halt}
use Rattle.hx_forest.specs.ParentRefs.{forest_of, node_in, place_in}
use Rattle.hx_forest.proofs.Stepping.{halts_with}
use Rattle.hx_forest.proofs.nodes.Nodes.has_halted.Given as goal

-- what is passed and what is left of the walk make the whole one
abbrev pub invariant-loop-left : goal.invariant-loop-left
invariant-loop-left l = halts_with l.has (nodes_halt l.left (forest_of l.self) (node_in (place_in l.self l.at))) ≡ nodes_halt (length (forest_of l.self)) (forest_of l.self) (node_in (place_in l.self l.fn.first))

abbrev pub decreases-loop-left : goal.decreases-loop-left
decreases-loop-left l = l.left
