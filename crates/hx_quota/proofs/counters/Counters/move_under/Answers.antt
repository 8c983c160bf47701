use Rattle.std.proofs.Common.{option_copied}
use Rattle.hx_quota.specs.Inside.{entries_of}
use Rattle.hx_quota.proofs.Fitting.{fits_moved}
use Rattle.hx_quota.proofs.counters.Counters.move_under.Goals as goal

pub invariant_of-self : goal.invariant_of-self
invariant_of-self c =
    (fits_moved (entries_of c.self.inside.ledger) (entries_of c.move_subtree.new.self) c.args.moved.now (option_copied c.args.parent) c.move_subtree.ensures.entries c.self.invariant.0, c.move_subtree.ensures.kept)
