use Rattle.std.proofs.Common.{◌≡◌, drop}
use Rattle.std.specs.Prelude.{find}
use Rattle.std.specs.Str.{bytes_eq}
use Rattle.hx_object.specs.Kinds.{plural_of}
use Rattle.hx_object.proofs.kind.of_plural.Given as goal

-- the kinds that are left give the kind
abbrev pub invariant-loop-kind : goal.invariant-loop-kind
invariant-loop-kind l = find (λ kind. bytes_eq l.plural (plural_of kind)) (drop l.kind-index l.kinds) ≡ find (λ kind. bytes_eq l.plural (plural_of kind)) l.kinds
