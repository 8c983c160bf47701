use Rattle.std.proofs.Common.{◌≡◌, ◌++◌, drop}
use Rattle.hx_marks.specs.Law.{apart}
use Rattle.hx_marks.proofs.moves.push_missing.Given as goal

-- the names so far, and those of the rest
abbrev pub invariant-loop-name : goal.invariant-loop-name
invariant-loop-name l = l.list.items ++ apart (drop l.name-index l.names) l.others ≡ l.initial.list.items ++ apart l.names l.others
