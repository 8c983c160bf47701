use Rattle.std.proofs.Common.{◌≡◌, ◌++◌, drop}
use Rattle.std.specs.Prelude.{flat_map}
use Rattle.hx_marks.specs.Law.{sent_from}
use Rattle.hx_marks.proofs.wants.sent_of_kinds.Given as goal

-- what is sent of the kinds so far, and of the rest
abbrev pub invariant-loop-kind : goal.invariant-loop-kind
invariant-loop-kind l = l.objects.items ++ flat_map (λ kind. sent_from l.store.objects kind l.names) (drop l.kind-index l.kinds) ≡ l.initial.objects.items ++ flat_map (λ kind. sent_from l.store.objects kind l.names) l.kinds
