use Rattle.std.proofs.Common.{◌<◌, Option, None, List, ℕ, length, ap, subst, ◌∙◌}
use Rattle.std.specs.Prelude.{IfSome}
use Rattle.hx_model.specs.Forest.{Forest, parent_of}
use Rattle.hx_model.proofs.Moving.{moved_parent}
use Rattle.hx_quota.specs.Counters.{Entries, tree_of}
use Rattle.hx_quota.specs.PlaceRows.{Links, ring_in}
use Rattle.hx_quota.specs.RingLinks.{with_rings, IsRingTop}
use Rattle.hx_quota.specs.Inside.{entries_in, ordered}
use Rattle.hx_quota.specs.Anew.{name_from, named}
use Rattle.hx_quota.proofs.Around.{rings_parted}
use Rattle.hx_quota.proofs.Moved.{tree_moved}
use Rattle.hx_quota.proofs.Opened.{tree_at, free_here, parted_entries, kept_rings}
use Rattle.hx_quota.proofs.Reached.{named_at}
use Rattle.hx_quota.proofs.Ringed.{fits_open}
use Rattle.hx_quota.proofs.ledger.Ledger.part.Goals as goal

pub open_ring-requires-clause-inside : goal.open_ring-requires-clause-inside
open_ring-requires-clause-inside c = subst (λ (o : Option ℕ). IfSome o (λ i. i < length c.args.self.now.places.entries)) c.in-Some.is c.ring_top.ensures.within

pub open_ring-requires-clause-top : goal.open_ring-requires-clause-top
open_ring-requires-clause-top c =
    let places = c.args.self.now.places.entries in
    subst (λ (o : Option (List ℕ)). IsRingTop (ring_in c.args.self.now.places.rings) (tree_of (ordered places)) (named (entries_in places) c.args.at) o)
    (ap (name_from (entries_in places)) c.in-Some.is ∙ named_at places c.in-Some.top (open_ring-requires-clause-inside c)) c.ring_top.ensures.top

pub move_open-requires-clause-fits : goal.move_open-requires-clause-fits
move_open-requires-clause-fits c = fits_open c.args.self.now.places.rings (ordered c.args.self.now.places.entries) c.requires.fits

pub move_open-requires-clause-opened : goal.move_open-requires-clause-opened
move_open-requires-clause-opened c = c.requires.kept.opened

pub returns-in-None-clause-entries : goal.returns-in-None-clause-entries
returns-in-None-clause-entries c =
    let old = c.args.self.now.places in
    let es = ordered old.entries in
    let n = named (entries_in old.entries) c.args.at in
    let there = tree_at old.entries c.requires.kept.opened.ended c.args.at c.requires.within in
    let alone : IsRingTop (ring_in old.rings) (tree_of es) n None = subst (λ (o : Option (List ℕ)). IsRingTop (ring_in old.rings) (tree_of es) n o) (ap (name_from (entries_in old.entries)) c.in-None.is) c.ring_top.ensures.top in
    (λ i. with_rings (c.move_open.ensures.rings i) (c.move_open.ensures.entries i)) ∙ parted_entries old.rings es c.requires.kept.rings n there None (free_here old.rings es c.requires.kept.rings n there alone)

pub returns-in-None-clause-free : goal.returns-in-None-clause-free
returns-in-None-clause-free c =
    let old = c.args.self.now.places in
    let es = ordered old.entries in
    let n = named (entries_in old.entries) c.args.at in
    let there = tree_at old.entries c.requires.kept.opened.ended c.args.at c.requires.within in
    let alone : IsRingTop (ring_in old.rings) (tree_of es) n None = subst (λ (o : Option (List ℕ)). IsRingTop (ring_in old.rings) (tree_of es) n o) (ap (name_from (entries_in old.entries)) c.in-None.is) c.ring_top.ensures.top in
    record {
      root = ap (λ (xs : Entries). parent_of (tree_of xs) n) c.move_open.ensures.entries ∙ ap (λ (f : Forest). parent_of f n) (tree_moved n None es) ∙ moved_parent (tree_of es) n None there;
      free = ap (λ (links : Links). ring_in links n) c.move_open.ensures.rings ∙ free_here old.rings es c.requires.kept.rings n there alone;
    }

pub returns-in-None-clause-kept : goal.returns-in-None-clause-kept
returns-in-None-clause-kept c =
    let old = c.args.self.now.places in
    let new = c.move_open.new.places in
    let es = ordered old.entries in
    let n = named (entries_in old.entries) c.args.at in
    let there = tree_at old.entries c.requires.kept.opened.ended c.args.at c.requires.within in
    let alone : IsRingTop (ring_in old.rings) (tree_of es) n None = subst (λ (o : Option (List ℕ)). IsRingTop (ring_in old.rings) (tree_of es) n o) (ap (name_from (entries_in old.entries)) c.in-None.is) c.ring_top.ensures.top in
    record {
      opened = c.move_open.ensures.opened;
      rings = kept_rings old.rings new.rings es (ordered new.entries) n None c.move_open.ensures.rings c.move_open.ensures.entries (rings_parted (ring_in old.rings) (tree_of es) c.requires.kept.rings n there alone);
      none = λ straight q. ap (λ (links : Links). ring_in links q) c.move_open.ensures.rings ∙ c.requires.kept.none straight q;
    }
