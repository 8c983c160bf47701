use Rattle.std.proofs.Common.{◌≡◌, drop}
use Rattle.std.specs.Prelude.{option_copied}
use Rattle.std.specs.List.{list_any}
use Rattle.hx_admit.specs.Conflicting.{comes_over}
use Rattle.hx_admit.proofs.conflicts.any_comes_over.Given as goal

-- those that are left tell what all do
abbrev pub invariant-loop-kind : goal.invariant-loop-kind
invariant-loop-kind l = list_any (comes_over l.state.state (option_copied l.new)) (drop l.kind-index l.kinds) ≡ list_any (comes_over l.state.state (option_copied l.new)) l.kinds
