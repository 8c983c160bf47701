use Rattle.std.proofs.Common.{◌≡◌}
use Rattle.std.specs.List.{list_any}
use Rattle.hx_admit.specs.Families.{allows_cascade_in}
use Rattle.hx_admit.proofs.family.any_allows.Given as goal

-- those that are left tell what all do
abbrev pub invariant-loop-member : goal.invariant-loop-member
invariant-loop-member l = list_any (allows_cascade_in l.state.state.objects) l.member-iterator ≡ list_any (allows_cascade_in l.state.state.objects) l.fn.members
