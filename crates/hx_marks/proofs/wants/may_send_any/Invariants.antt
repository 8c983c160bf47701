use Rattle.std.proofs.Common.{◌≡◌, ℕ, List, drop}
use Rattle.std.specs.Prelude.{flat_map}
use Rattle.hx_object.specs.declared.kind.Kind.{Kind}
use Rattle.hx_marks.specs.Law.{sent_from}
use Rattle.hx_marks.proofs.wants.may_send_any.Given as goal

-- the kinds that are left send what all do
abbrev pub invariant-loop-kind : goal.invariant-loop-kind
invariant-loop-kind l = (names : List (List ℕ)) → flat_map (λ (kind : Kind). sent_from l.store.objects kind names) (drop l.kind-index l.kinds) ≡ flat_map (λ kind. sent_from l.store.objects kind names) l.kinds
