use Rattle.std.proofs.Common.{◌≡◌, ◌++◌, drop}
use Rattle.std.specs.Prelude.{filter}
use Rattle.hx_model.specs.Moves.{mode_at}
use Rattle.hx_model.specs.Propagation.{is_propagated}
use Rattle.hx_marks.proofs.senders.push_propagated.Given as goal

-- the kinds so far, and those of the rest
abbrev pub invariant-loop-kind : goal.invariant-loop-kind
invariant-loop-kind l = l.kinds.items ++ filter (λ kind. is_propagated (mode_at l.store.objects kind)) (drop l.kind-index l.all) ≡ l.initial.kinds.items ++ filter (λ kind. is_propagated (mode_at l.store.objects kind)) l.all
