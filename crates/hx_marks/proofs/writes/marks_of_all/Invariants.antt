use Rattle.std.proofs.Common.{◌≡◌, ◌++◌, drop}
use Rattle.std.specs.Prelude.{flat_map}
use Rattle.hx_marks.specs.Before.{marks_before_among}
use Rattle.hx_marks.specs.Reads.{state_in}
use Rattle.hx_marks.proofs.writes.marks_of_all.Given as goal

-- the marks so far, and those of the rest
abbrev pub invariant-loop-write : goal.invariant-loop-write
invariant-loop-write l = l.keys.items ++ flat_map (marks_before_among (state_in l.current) l.endings) (drop l.write-index l.writes) ≡ l.initial.keys.items ++ flat_map (marks_before_among (state_in l.current) l.endings) l.writes
