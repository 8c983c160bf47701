use Rattle.std.proofs.Common.{◌≡◌, ◌-◌, Some, length}
use Rattle.hx_model.specs.Walks.{walk_to}
use Rattle.hx_forest.specs.ParentRefs.{forest_of, name_in}
use Rattle.hx_forest.proofs.Stepping.{counted_on}
use Rattle.hx_forest.proofs.nodes.Nodes.steps_to.Given as goal

-- the steps so far and those that are left make the whole walk
abbrev pub invariant-loop-steps : goal.invariant-loop-steps
invariant-loop-steps l = counted_on l.steps (walk_to (length (forest_of l.self) - l.steps) (forest_of l.self) (name_in l.self l.at) l.above) ≡ walk_to (length (forest_of l.self)) (forest_of l.self) (Some l.name) l.above
