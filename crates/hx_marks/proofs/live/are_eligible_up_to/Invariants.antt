use Rattle.std.proofs.Common.{◌≡◌}
use Rattle.std.specs.List.{list_all}
use Rattle.hx_model.specs.Moves.{up_to, is_eligible}
use Rattle.hx_marks.proofs.live.are_eligible_up_to.Given as goal

-- those that are left tell what all do
abbrev pub invariant-loop-member : goal.invariant-loop-member
invariant-loop-member l = list_all (is_eligible l.forest.nodes) (up_to l.name l.member-iterator) ≡ list_all (is_eligible l.forest.nodes) (up_to l.name l.fn.members)
