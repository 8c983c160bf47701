use Rattle.std.proofs.Common.{◌≡◌, ◌++◌, drop}
use Rattle.std.specs.Prelude.{flat_map}
use Rattle.hx_model.specs.Forest.{subtree_of}
use Rattle.hx_marks.proofs.below.push_below.Given as goal

-- what lies below the names so far, and below the rest
abbrev pub invariant-loop-name : goal.invariant-loop-name
invariant-loop-name l = l.list.items ++ flat_map (subtree_of l.forest.nodes) (drop l.name-index l.names) ≡ l.initial.list.items ++ flat_map (subtree_of l.forest.nodes) l.names
