use Rattle.std.proofs.Common.{◌≡◌, drop}
use Rattle.hx_model.specs.Forest.{node_of}
use Rattle.hx_report.proofs.describing.node_in.Given as goal

-- it is looked up among those that are left
abbrev pub invariant-loop-entry : goal.invariant-loop-entry
invariant-loop-entry l = node_of (drop l.entry-index l.nodes) l.name ≡ node_of l.nodes l.name
