use Rattle.std.proofs.Common.{sym, ap, subst, ◌∙◌}
use Rattle.hx_quota.specs.Counters.{tree_of}
use Rattle.hx_quota.specs.PlaceRows.{Links, ring_in}
use Rattle.hx_quota.specs.RingLinks.{with_rings, AreRings}
use Rattle.hx_quota.specs.Inside.{Places, ordered, IsOpen}
use Rattle.hx_quota.proofs.ledger.Ledger.reserve.Goals as goal

pub returns-clause-entries : goal.returns-clause-entries
returns-clause-entries c = λ i. with_rings (c.reserve.ensures.rings i) (ordered (c.reserve.ensures.entries i))

pub returns-clause-kept : goal.returns-clause-kept
returns-clause-kept c = λ kept.
    let old = c.args.self.now.places in
    let new = c.reserve.new.self in
    let same = c.reserve.ensures.entries in
    let rings = c.reserve.ensures.rings in
    record {
      opened = subst (λ (places : Places). IsOpen places) (sym same) kept.opened;
      rings = subst (λ (places : Places). AreRings (ring_in new.rings) (tree_of (ordered places))) (sym same) (subst (λ (links : Links). AreRings (ring_in links) (tree_of (ordered old.entries))) (sym rings) kept.rings);
      none = λ straight n. ap (λ (links : Links). ring_in links n) rings ∙ kept.none straight n;
    }
