use Rattle.std.proofs.Common.{sym, subst}
use Rattle.hx_line.specs.Line.{IsLine}
use Rattle.hx_line.proofs.Lining.{no_keys}
use Rattle.hx_line.proofs.line.Line.new.Goals as goal

pub invariant_of-result : goal.invariant_of-result
invariant_of-result c = subst (λ l. IsLine l 0) (sym c.with_hasher.ensures.empty) no_keys
