use Rattle.std.proofs.Common.{◌≡◌, sum_by, take}
use Rattle.hx_object.specs.declared.object.Object.{Object}
use Rattle.hx_model.specs.Charges.{charge_of}
use Rattle.hx_survey.proofs.usage.charge_of_all.Given as goal

-- the sum of those so far
abbrev pub invariant-loop-shared : goal.invariant-loop-shared
invariant-loop-shared l = l.sum ≡ sum_by (λ (x : Object). charge_of x l.resource) (take l.shared-index l.objects)
