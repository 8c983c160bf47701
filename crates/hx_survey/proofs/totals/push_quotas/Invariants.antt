use Rattle.hx_survey.specs.Sums.{AreTotals}
use Rattle.hx_survey.proofs.totals.push_quotas.Given as goal

-- what is noted is so
abbrev pub invariant-loop-quota : goal.invariant-loop-quota
invariant-loop-quota l = AreTotals l.objects l.tree l.ways.seams.now l.each.items
