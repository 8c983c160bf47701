use Rattle.std.proofs.Common.{◌≡◌, drop}
use Rattle.std.specs.List.{list_any}
use Rattle.hx_forest.specs.Inside.{is_over, goes_deeper}
use Rattle.hx_forest.proofs.forest.Forest.+goes_deeper.Given as goal

-- the children that are left tell it
abbrev pub invariant-loop-child : goal.invariant-loop-child
invariant-loop-child l = list_any (is_over l.left l.self.nodes l.top) (drop l.child-index l.child-items) ≡ goes_deeper l.left l.self.nodes l.top l.name

abbrev pub decreases-goes_deeper : goal.decreases-goes_deeper
decreases-goes_deeper l = l.left
