use Rattle.std.proofs.Common.{◌≡◌}
use Rattle.std.specs.List.{list_any}
use Rattle.hx_admit.specs.Conflicting.{goes_beside}
use Rattle.hx_admit.proofs.conflicts.any_beside.Given as goal

-- those that are left tell what all do
abbrev pub invariant-loop-ancestor : goal.invariant-loop-ancestor
invariant-loop-ancestor l = list_any (goes_beside l.state.state l.home l.ns l.kind l.name) l.ancestor-iterator ≡ list_any (goes_beside l.state.state l.home l.ns l.kind l.name) l.fn.above
