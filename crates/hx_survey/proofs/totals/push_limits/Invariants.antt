use Rattle.hx_survey.specs.Sums.{AreTotals}
use Rattle.hx_survey.proofs.totals.push_limits.Given as goal

-- what is noted is so
abbrev pub invariant-loop-limit : goal.invariant-loop-limit
invariant-loop-limit l = AreTotals l.objects l.tree l.ways.seams.now l.each.items
