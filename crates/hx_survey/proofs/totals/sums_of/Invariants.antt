use Rattle.std.proofs.Common.{drop}
use Rattle.hx_survey.specs.Seams.{shared_at}
use Rattle.hx_survey.proofs.Flowing.{IsPassing}
use Rattle.hx_survey.proofs.Summing.{IsBegun}
use Rattle.hx_survey.proofs.totals.sums_of.Given as goal

-- those so far have what lies in them
abbrev pub invariant-loop-place : goal.invariant-loop-place
invariant-loop-place l = IsBegun l.objects l.tree l.resource l.ways l.sums.items l.place

-- those so far have passed on what they have
abbrev pub invariant-loop-lowest : goal.invariant-loop-lowest
invariant-loop-lowest l = IsPassing l.objects l.tree l.fn.resource (shared_at l.ways.seams.now) l.ways.cuts.now l.sums.items (drop l.lowest-index l.ways.order.now)
