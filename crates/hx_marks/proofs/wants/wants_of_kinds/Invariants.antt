use Rattle.std.proofs.Common.{◌≡◌, ◌++◌, ◌∷◌, drop}
use Rattle.std.specs.Prelude.{flat_map}
use Rattle.hx_marks.specs.Law.{wants_of_kind}
use Rattle.hx_marks.proofs.wants.wants_of_kinds.Given as goal

-- the marks so far, and those of the rest
abbrev pub invariant-loop-kind : goal.invariant-loop-kind
invariant-loop-kind l = l.keys.items ++ flat_map (wants_of_kind l.store.objects (l.name ∷ l.above) l.name) (drop l.kind-index l.kinds) ≡ l.initial.keys.items ++ flat_map (wants_of_kind l.store.objects (l.name ∷ l.above) l.name) l.kinds
