use Rattle.std.proofs.Common.{◌≡◌, ◌++◌, drop}
use Rattle.hx_select.specs.TreeLabels.{absent_needs}
use Rattle.hx_select.proofs.tree_select.push_absent.Given as goal

-- what is there so far, and what is left, are what is there in the end
abbrev pub invariant-loop-name : goal.invariant-loop-name
invariant-loop-name l = l.needs.items ++ absent_needs (drop l.name-index l.names) ≡ l.initial.needs.items ++ absent_needs l.names
