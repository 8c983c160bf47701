use Rattle.std.proofs.Common.{◌≡◌, drop}
use Rattle.std.specs.List.{list_all}
use Rattle.hx_survey.proofs.order.all_set.Given as goal

-- what is left tells whether all are
abbrev pub invariant-loop-is : goal.invariant-loop-is
invariant-loop-is l = list_all (λ is. is) (drop l.is-index l.placed) ≡ list_all (λ is. is) l.placed
