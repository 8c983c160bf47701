use Rattle.std.proofs.Common.{◌≡◌, ◌++◌, drop, map}
use Rattle.hx_model.specs.declared.key.Key.TheVariants as key
use Rattle.hx_marks.proofs.anchors.push_children.Given as goal

-- the marks so far, and those of the rest
abbrev pub invariant-loop-anchor : goal.invariant-loop-anchor
invariant-loop-anchor l = l.keys.items ++ map (λ x. key.Child l.ns x.id.name) (drop l.anchor-index l.anchors) ≡ l.initial.keys.items ++ map (λ x. key.Child l.ns x.id.name) l.anchors
