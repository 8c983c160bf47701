use Rattle.std.proofs.Common.{◌≡◌, sum_by, take}
use Rattle.hx_survey.specs.Inside.{charge_in}
use Rattle.hx_survey.proofs.usage.charge_in_all.Given as goal

-- the sum of those so far
abbrev pub invariant-loop-name : goal.invariant-loop-name
invariant-loop-name l = l.sum ≡ sum_by (charge_in l.objects l.resource) (take l.name-index l.names)
