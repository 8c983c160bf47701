use Rattle.std.proofs.Common.{◌≡◌, ◌++◌, drop}
use Rattle.std.specs.Prelude.{flat_map}
use Rattle.hx_marks.specs.Law.{sent_marks}
use Rattle.hx_marks.proofs.moves.sent_marks.Given as goal

-- the marks so far, and those of the rest
abbrev pub invariant-loop-member : goal.invariant-loop-member
invariant-loop-member l = l.keys.items ++ flat_map (sent_marks l.sent) (drop l.member-index l.members) ≡ l.initial.keys.items ++ flat_map (sent_marks l.sent) l.members
