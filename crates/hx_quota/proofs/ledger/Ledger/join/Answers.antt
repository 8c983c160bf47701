use Rattle.std.proofs.Common.{ap, sym, subst, ◌∙◌, true≢false}
use Rattle.hx_forest.proofs.Named.{ascends-values}
use Rattle.hx_quota.specs.Counters.{tree_of}
use Rattle.hx_quota.specs.PlaceRows.{Links, Places, ring_in}
use Rattle.hx_quota.specs.RingLinks.{with_rings, AreRings}
use Rattle.hx_quota.specs.Inside.{entries_in, ordered, IsOpen}
use Rattle.hx_quota.specs.Anew.{name_from, named}
use Rattle.hx_quota.proofs.Around.{rings_joined}
use Rattle.hx_quota.proofs.Opened.{tree_at, parted_entries, kept_rings, rings_closed, others_stay, this_then}
use Rattle.hx_quota.proofs.Ringed.{fits_open, ringed_linked}
use Rattle.hx_quota.proofs.ledger.Ledger.join.Goals as goal

pub move_open-requires-clause-free : goal.move_open-requires-clause-free
move_open-requires-clause-free c = sym c.has_above.ensures ∙ c.if-has_above.false

pub move_open-requires-clause-fits : goal.move_open-requires-clause-fits
move_open-requires-clause-fits c = fits_open c.args.self.now.places.rings (ordered c.args.self.now.places.entries) c.requires.fits

pub move_open-requires-clause-opened : goal.move_open-requires-clause-opened
move_open-requires-clause-opened c = c.requires.kept.opened

pub returns-then-has_above-clause-entries : goal.returns-then-has_above-clause-entries
returns-then-has_above-clause-entries c =
    let old = c.args.self.now.places in
    let new = c.set_ring.new.places in
    let es = ordered old.entries in
    let n = named (entries_in old.entries) c.args.at in
    let parent = name_from (entries_in old.entries) c.args.up in
    let is = c.set_ring.ensures.rings in
    ap (λ (places : Places). with_rings new.rings (ordered places)) c.set_ring.ensures.entries
    ∙ ringed_linked old.rings new.rings n parent es (ascends-values (entries_in old.entries)) c.requires.free.root (this_then (ring_in old.rings) (ring_in new.rings) n parent is) (others_stay (ring_in old.rings) (ring_in new.rings) n parent is)

pub returns-then-has_above-clause-kept : goal.returns-then-has_above-clause-kept
returns-then-has_above-clause-kept c =
    let old = c.args.self.now.places in
    let new = c.set_ring.new.places in
    let es = ordered old.entries in
    let n = named (entries_in old.entries) c.args.at in
    let parent = name_from (entries_in old.entries) c.args.up in
    let same = c.set_ring.ensures.entries in
    record {
      opened = subst (λ (places : Places). IsOpen places) (sym same) c.requires.kept.opened;
      rings = subst (λ (places : Places). AreRings (ring_in new.rings) (tree_of (ordered places))) (sym same)
          (rings_closed (ring_in old.rings) (ring_in new.rings) (tree_of es) n parent c.requires.kept.rings c.set_ring.ensures.rings c.requires.free.root (sym c.has_above.ensures ∙ c.if-has_above.true));
      none = λ straight q. absurd (true≢false straight);
    }

pub returns-clause-entries : goal.returns-clause-entries
returns-clause-entries c =
    let old = c.args.self.now.places in
    let es = ordered old.entries in
    let n = named (entries_in old.entries) c.args.at in
    let there = tree_at old.entries c.requires.kept.opened.ended c.args.at c.requires.within in
    (λ i. with_rings (c.move_open.ensures.rings i) (c.move_open.ensures.entries i)) ∙ parted_entries old.rings es c.requires.kept.rings n there (name_from (entries_in old.entries) c.args.up) c.requires.free.free

pub returns-clause-kept : goal.returns-clause-kept
returns-clause-kept c =
    let old = c.args.self.now.places in
    let new = c.move_open.new.places in
    let es = ordered old.entries in
    let n = named (entries_in old.entries) c.args.at in
    let parent = name_from (entries_in old.entries) c.args.up in
    let there = tree_at old.entries c.requires.kept.opened.ended c.args.at c.requires.within in
    record {
      opened = c.move_open.ensures.opened;
      rings = kept_rings old.rings new.rings es (ordered new.entries) n parent c.move_open.ensures.rings c.move_open.ensures.entries (rings_joined (ring_in old.rings) (tree_of es) c.requires.kept.rings n there parent c.requires.free.root c.requires.free.free);
      none = λ straight q. ap (λ (links : Links). ring_in links q) c.move_open.ensures.rings ∙ c.requires.kept.none straight q;
    }
