use Rattle.std.proofs.Common.{◌≡◌, ℕ, List, drop}
use Rattle.std.specs.List.{list_any}
use Rattle.hx_model.specs.Moves.{overwrites_kind}
use Rattle.hx_admit.proofs.moves.any_may_spread.Given as goal

-- what is left tells whether one is overwritten
abbrev pub invariant-loop-kind : goal.invariant-loop-kind
invariant-loop-kind l = (n : List ℕ) (after before : List (List ℕ)) → list_any (overwrites_kind l.store.objects n after before) (drop l.kind-index l.kinds) ≡ list_any (overwrites_kind l.store.objects n after before) l.kinds
