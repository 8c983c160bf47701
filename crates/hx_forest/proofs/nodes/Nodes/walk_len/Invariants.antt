use Rattle.std.proofs.Common.{◌≡◌, ◌+◌, length}
use Rattle.hx_forest.specs.Inside.{nodes_end}
use Rattle.hx_forest.specs.ParentRefs.{forest_of, node_in, place_in}
use Rattle.hx_forest.proofs.Stepping.{counted_on}
use Rattle.hx_forest.proofs.nodes.Nodes.walk_len.Given as goal

-- what is passed and what is left of the walk make the whole one
abbrev pub invariant-loop-left : goal.invariant-loop-left
invariant-loop-left l = record {
  whole : counted_on l.passed (nodes_end l.left (forest_of l.self) (node_in (place_in l.self l.at))) ≡ nodes_end (length (forest_of l.self) + 1) (forest_of l.self) (node_in (place_in l.self l.fn.first));
  count : l.passed + l.left ≡ length (forest_of l.self) + 1;
}

abbrev pub decreases-loop-left : goal.decreases-loop-left
decreases-loop-left l = l.left
