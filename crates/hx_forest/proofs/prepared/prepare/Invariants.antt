use Rattle.std.proofs.Common.{◌≡◌, ◌++◌}
use Rattle.std.specs.List.{AllByRecursion}
use Rattle.std.specs.Vec.Iter.{into_iter_items}
use Rattle.hx_forest.specs.Staged.{changes_of, IsLinked}
use Rattle.hx_forest.proofs.prepared.prepare.Given as goal

-- the changes so far are prepared, and the others are left
abbrev pub invariant-loop-change : goal.invariant-loop-change
invariant-loop-change l = (changes_of l.prepared.items ++ into_iter_items l.change-iterator ≡ into_iter_items l.initial.change-iterator) × AllByRecursion (IsLinked l.room) l.prepared.items
