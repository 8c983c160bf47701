use Rattle.std.proofs.Common.{drop}
use Rattle.hx_survey.specs.Sums.{AreTotals}
use Rattle.hx_survey.proofs.totals.noted.Given as goal

-- those that are left are noted rightly
abbrev pub invariant-loop-total : goal.invariant-loop-total
invariant-loop-total l = AreTotals l.objects l.tree l.totals.seams.items (drop l.total-index l.totals.each.items)
