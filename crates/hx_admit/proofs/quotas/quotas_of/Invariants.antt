use Rattle.std.proofs.Common.{◌≡◌, ◌++◌}
use Rattle.std.specs.Prelude.{flat_map}
use Rattle.hx_model.specs.Quotas.{quotas_in}
use Rattle.hx_admit.proofs.quotas.quotas_of.Given as goal

-- what was found, with what is found in those that are left, is the whole
abbrev pub invariant-loop-member : goal.invariant-loop-member
invariant-loop-member l = l.quotas.items ++ flat_map (quotas_in l.state.state.objects) l.member-iterator ≡ flat_map (quotas_in l.state.state.objects) l.fn.members
