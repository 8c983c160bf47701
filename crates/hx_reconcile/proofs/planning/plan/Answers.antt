use Rattle.std.proofs.Common.{subst, sym}
use Rattle.hx_reconcile.specs.Briefs.{IsStorableFor}
use Rattle.hx_reconcile.proofs.Storable.{storable_seen}
use Rattle.hx_reconcile.proofs.planning.plan.Goals as goal

pub returns-in-Ok-clause-storable : goal.returns-in-Ok-clause-storable
returns-in-Ok-clause-storable c =
    subst (λ write. IsStorableFor c.args.brief write) (sym c.new.ensures.write) (storable_seen c.args.brief c.brief.result.now c.in-Ok.write c.brief.ensures c.in-Ok.ensures.planned c.in-Ok.ensures.short)
