use Rattle.std.proofs.Common.{◌≡◌, ◌∷◌, ◌++◌, [], drop, map}
use Rattle.hx_marks.specs.Law.{apart, key_for}
use Rattle.hx_marks.proofs.modes.push_others.Given as goal

-- the marks so far, and those of the rest
abbrev pub invariant-loop-name : goal.invariant-loop-name
invariant-loop-name l = l.keys.items ++ map (λ m. key_for m l.object) (apart (drop l.name-index l.names) (l.object.id.ns ∷ [])) ≡ l.initial.keys.items ++ map (λ m. key_for m l.object) (apart l.names (l.object.id.ns ∷ []))
