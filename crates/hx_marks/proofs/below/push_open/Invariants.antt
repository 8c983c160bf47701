use Rattle.std.proofs.Common.{◌≡◌, ◌++◌, true, drop}
use Rattle.std.specs.Prelude.{filter, option_copied}
use Rattle.hx_model.specs.Moves.{is_open_above}
use Rattle.hx_model.specs.TreeLabels.{is_open}
use Rattle.hx_marks.proofs.below.push_open.Given as goal

-- those so far, and those of the rest; the last one takes part, and so does its parent
abbrev pub invariant-loop-member : goal.invariant-loop-member
invariant-loop-member l = (l.list.items ++ filter (is_open l.forest.nodes) (drop l.member-index l.members) ≡ l.initial.list.items ++ filter (is_open l.forest.nodes) l.members) × ((is_open_above l.forest.nodes (option_copied l.above) ≡ true) × (is_open_above l.forest.nodes (option_copied l.last) ≡ true))
