use Rattle.std.proofs.Common.{◌≡◌, ◌++◌, map, length}
use Rattle.std.specs.List.{flat_map}
use Rattle.hx_report.specs.Inside.{list_at}
use Rattle.hx_report.specs.Outline.{line_at, lines_under}
use Rattle.hx_report.proofs.Opening.{pending}
use Rattle.hx_report.proofs.outline.spread.Given as goal

-- with those that come of what is opened it is all lines
abbrev pub invariant-loop-line : goal.invariant-loop-line
invariant-loop-line l = l.lines.items ++ pending (list_at l.places) l.most l.opened.items ≡ flat_map (lines_under (list_at l.places) l.most) (map (line_at 0) l.places.tops.items)

abbrev pub decreases-loop-line : goal.decreases-loop-line
decreases-loop-line l = length (pending (list_at l.places) l.most l.opened.items)
