use Rattle.std.proofs.Common.{◌≡◌, ◌++◌, drop}
use Rattle.hx_marks.specs.Law.{ending_names}
use Rattle.hx_marks.proofs.endings.push_endings.Given as goal

-- the names so far, and those of the rest
abbrev pub invariant-loop-write : goal.invariant-loop-write
invariant-loop-write l = l.names.items ++ ending_names (drop l.write-index l.writes) ≡ l.initial.names.items ++ ending_names l.writes
