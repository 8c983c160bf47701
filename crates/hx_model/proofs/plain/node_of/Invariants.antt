use Rattle.std.proofs.Common.{◌≡◌, drop}
use Rattle.hx_model.specs.Forest.{node_of}
use Rattle.hx_model.proofs.plain.node_of.Given as goal

-- what is left gives the node
abbrev pub invariant-loop-entry : goal.invariant-loop-entry
invariant-loop-entry l = node_of (drop l.entry-index l.nodes) l.name ≡ node_of l.nodes l.name
