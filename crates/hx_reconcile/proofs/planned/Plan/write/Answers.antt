use Rattle.std.proofs.Common.{subst}
use Rattle.hx_reconcile.specs.Briefs.{IsStorableFor, Planned}
use Rattle.hx_reconcile.proofs.Storable.{storable}
use Rattle.hx_reconcile.proofs.planned.Plan.write.Goals as goal

pub returns-clause-storable : goal.returns-clause-storable
returns-clause-storable c = subst (λ (p : Planned). IsStorableFor p.brief p.write) c.self.view_is (storable c.self.inside.brief c.self.inside.write c.self.invariant)
