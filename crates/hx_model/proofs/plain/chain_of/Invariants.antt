use Rattle.std.proofs.Common.{◌≡◌, [], Some, length, option_copied}
use Rattle.hx_model.specs.Forest.{climb}
use Rattle.hx_model.proofs.plain.chain_of.Given as goal

-- what is left to climb leads from the list so far to the whole one
abbrev pub invariant-loop-left : goal.invariant-loop-left
invariant-loop-left l = climb l.left l.nodes l.built.items (option_copied l.next) ≡ climb (length l.nodes) l.nodes [] (Some l.name)

abbrev pub decreases-loop-left : goal.decreases-loop-left
decreases-loop-left l = l.left
