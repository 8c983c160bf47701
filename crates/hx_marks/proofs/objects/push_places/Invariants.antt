use Rattle.std.proofs.Common.{◌≡◌, ◌++◌, drop, map}
use Rattle.hx_model.specs.declared.key.Key.TheVariants as key
use Rattle.hx_marks.proofs.objects.push_places.Given as goal

-- the marks so far, and those of the rest
abbrev pub invariant-loop-name : goal.invariant-loop-name
invariant-loop-name l = l.keys.items ++ map (λ m. key.Copy m l.id.kind l.id.name) (drop l.name-index l.names) ≡ l.initial.keys.items ++ map (λ m. key.Copy m l.id.kind l.id.name) l.names
