use Rattle.std.proofs.Common.{sym, subst}
use Rattle.hx_forest.specs.Names.{IsAscending}
use Rattle.hx_forest.proofs.Ascending.{none_ascends}
use Rattle.hx_forest.proofs.names.Names.new.Goals as goal

pub invariant_of-result : goal.invariant_of-result
invariant_of-result c = subst IsAscending (sym c.new.ensures.items) none_ascends
