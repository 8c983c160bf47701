use Rattle.std.proofs.Common.{◌≡◌, drop}
use Rattle.std.specs.List.{list_all}
use Rattle.hx_marks.specs.Spread.{is_beside_tree}
use Rattle.hx_marks.proofs.spread.are_beside_tree.Given as goal

-- those that are left tell what all do
abbrev pub invariant-loop-write : goal.invariant-loop-write
invariant-loop-write l = list_all is_beside_tree (drop l.write-index l.writes) ≡ list_all is_beside_tree l.writes
