use Rattle.std.proofs.Common.{◌≤◌, ◌-◌, length}
use Rattle.hx_forest.proofs.Descending.{IsDescent}
use Rattle.hx_forest.proofs.forest.Forest.below.Given as goal

-- the names so far, and the children of the first ones are among them
abbrev pub invariant-loop-at : goal.invariant-loop-at
invariant-loop-at l = (l.at ≤ length l.names.items) × IsDescent l.self.nodes l.name l.at l.names.items

abbrev pub decreases-loop-at : goal.decreases-loop-at
decreases-loop-at l = length l.self.nodes - l.at
