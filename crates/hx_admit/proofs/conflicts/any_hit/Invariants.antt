use Rattle.std.proofs.Common.{◌≡◌, drop}
use Rattle.std.specs.List.{list_any}
use Rattle.hx_object.specs.declared.object.Object.{Object}
use Rattle.hx_admit.specs.Conflicting.{is_hit}
use Rattle.hx_admit.proofs.conflicts.any_hit.Given as goal

-- those that are left tell what all do
abbrev pub invariant-loop-other : goal.invariant-loop-other
invariant-loop-other l = list_any (λ (y : Object). is_hit l.state.state l.new y.id.ns) (drop l.other-index l.others) ≡ list_any (λ (y : Object). is_hit l.state.state l.new y.id.ns) l.others
