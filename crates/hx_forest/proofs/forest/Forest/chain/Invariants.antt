use Rattle.std.proofs.Common.{◌≡◌, ◌++◌}
use Rattle.hx_model.specs.Forest.{chain_of}
use Rattle.hx_forest.proofs.forest.Forest.chain.Given as goal

-- the members so far, and those that are left
abbrev pub invariant-loop-member : goal.invariant-loop-member
invariant-loop-member l = l.names.items ++ l.member-iterator ≡ chain_of l.self.nodes l.name
