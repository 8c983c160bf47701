use Rattle.std.proofs.Common.{◌≡◌, ◌++◌, drop}
use Rattle.std.specs.List.{flat_map}
use Rattle.hx_admit.specs.Removing.{ended_at}
use Rattle.hx_admit.proofs.removal.push_each_ended.Given as goal

-- the writes so far, and those that the rest gives
abbrev pub invariant-loop-member : goal.invariant-loop-member
invariant-loop-member l = l.writes.items ++ flat_map (ended_at l.state.state) (drop l.member-index l.members) ≡ l.initial.writes.items ++ flat_map (ended_at l.state.state) l.members
