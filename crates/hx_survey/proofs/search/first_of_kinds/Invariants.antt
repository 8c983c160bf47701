use Rattle.std.proofs.Common.{◌≡◌, drop}
use Rattle.hx_model.specs.First.{first_of}
use Rattle.hx_survey.specs.Inside.{first_listed}
use Rattle.hx_survey.proofs.search.first_of_kinds.Given as goal

-- what is left gives the same
abbrev pub invariant-loop-kind : goal.invariant-loop-kind
invariant-loop-kind l = first_of (first_listed l.objects l.ns) (drop l.kind-index l.kinds) ≡ first_of (first_listed l.objects l.ns) l.kinds
