use Rattle.hx_reconcile.proofs.Storable.{storable}
use Rattle.hx_reconcile.proofs.planned.Plan.into_parts.Goals as goal

pub returns-clause-storable : goal.returns-clause-storable
returns-clause-storable c = storable c.self.inside.brief c.self.inside.write c.self.invariant
