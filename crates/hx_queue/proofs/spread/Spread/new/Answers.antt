use Rattle.std.proofs.Common.{None, sym, subst}
use Rattle.hx_queue.specs.Spread.{IsSpread}
use Rattle.hx_queue.proofs.Spreads.{nothing}
use Rattle.hx_queue.proofs.spread.Spread.new.Goals as goal

pub invariant_of-result : goal.invariant_of-result
invariant_of-result c = subst (IsSpread None) (sym c.with_hasher.ensures.empty) nothing
