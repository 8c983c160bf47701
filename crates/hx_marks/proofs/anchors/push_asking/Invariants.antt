use Rattle.std.proofs.Common.{◌≡◌, ◌++◌, drop}
use Rattle.std.specs.Prelude.{flat_map}
use Rattle.hx_marks.specs.Law.{anchor_keys}
use Rattle.hx_marks.proofs.anchors.push_asking.Given as goal

-- the marks so far, and those of the rest
abbrev pub invariant-loop-anchor : goal.invariant-loop-anchor
invariant-loop-anchor l = l.keys.items ++ flat_map (λ x. anchor_keys x.id) (drop l.anchor-index l.anchors) ≡ l.initial.keys.items ++ flat_map (λ x. anchor_keys x.id) l.anchors
