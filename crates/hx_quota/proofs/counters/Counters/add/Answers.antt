use Rattle.std.proofs.Common.{ap, sym}
use Rattle.hx_quota.specs.Counters.{CountersView}
use Rattle.hx_quota.specs.Inside.{entries_of}
use Rattle.hx_quota.proofs.Fitting.{fits_added}
use Rattle.hx_quota.proofs.counters.Counters.add.Goals as goal

pub invariant_of-self : goal.invariant_of-self
invariant_of-self c = (
  fits_added (entries_of c.self.inside.ledger) c.args.self.now.entries (entries_of c.add.new.self) c.args.ns (sym (ap (λ (v : CountersView). v.entries) c.self.view_is)) c.requires.absent c.add.ensures.entries c.self.invariant.0,
  c.add.ensures.kept,
)
