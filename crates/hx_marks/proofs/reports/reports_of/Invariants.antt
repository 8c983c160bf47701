use Rattle.std.proofs.Common.{◌≡◌, ◌++◌, drop}
use Rattle.hx_marks.specs.Reports.{reports_of}
use Rattle.hx_marks.proofs.reports.reports_of.Given as goal

-- the reports of the names so far, and those of the rest
abbrev pub invariant-loop-name : goal.invariant-loop-name
invariant-loop-name l = l.keys.items ++ reports_of l.forest.nodes (drop l.name-index l.names) ≡ l.initial.keys.items ++ reports_of l.forest.nodes l.names
