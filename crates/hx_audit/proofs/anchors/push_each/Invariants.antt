use Rattle.std.proofs.Common.{◌≡◌, ◌++◌, drop, flat_map}
use Rattle.hx_audit.specs.Candidates.{anchor_keys}
use Rattle.hx_audit.proofs.anchors.push_each.Given as goal

-- the keys so far, and those of the rest of the anchors
abbrev pub invariant-loop-anchor : goal.invariant-loop-anchor
invariant-loop-anchor l = l.wanting.items ++ flat_map (anchor_keys l.survey l.ns) (drop l.anchor-index l.anchors) ≡ l.initial.wanting.items ++ flat_map (anchor_keys l.survey l.ns) l.anchors
