use Rattle.hx_quota.specs.Inside.{entries_of}
use Rattle.hx_quota.proofs.Fitting.{fits_removed}
use Rattle.hx_quota.proofs.counters.Counters.remove.Goals as goal

pub invariant_of-self : goal.invariant_of-self
invariant_of-self c =
    (fits_removed (entries_of c.self.inside.ledger) (entries_of c.remove.new.self) c.args.ns.now c.remove.ensures.entries c.self.invariant.0, c.remove.ensures.kept)
