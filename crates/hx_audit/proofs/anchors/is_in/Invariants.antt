use Rattle.std.proofs.Common.{◌≡◌, drop}
use Rattle.hx_model.specs.Forest.{is_in}
use Rattle.hx_audit.proofs.anchors.is_in.Given as goal

-- what is left tells whether the name is among them
abbrev pub invariant-loop-other : goal.invariant-loop-other
invariant-loop-other l = is_in l.name (drop l.other-index l.names) ≡ is_in l.name l.names
