use Rattle.std.proofs.Common.{◌≡◌, Option, Some, None, List, ℕ, cond, ap, refl, sym, subst, ◌∙◌}
use Rattle.std.specs.Str.{bytes_eq}
use Rattle.std.proofs.lemmas.Option.{none-some}
use Rattle.hx_forest.proofs.Named.{ascends-values}
use Rattle.hx_quota.specs.PlaceRows.{Place, Places, new_place, place_at, ring_in}
use Rattle.hx_quota.specs.RingLinks.{with_rings, AreRings}
use Rattle.hx_quota.specs.Counters.{Entries, entry_of, tree_of, with_entry, new_entry}
use Rattle.hx_quota.specs.Inside.{entries_in, ordered, AllEnd}
use Rattle.hx_quota.proofs.Ending.{closed_all}
use Rattle.hx_quota.proofs.Indexed.{place_added}
use Rattle.hx_quota.proofs.Keeping.{summed_added}
use Rattle.hx_quota.proofs.Lasting.{ends_added}
use Rattle.hx_quota.proofs.Opened.{rings_added}
use Rattle.hx_quota.proofs.Placed.{entry_in, entry_at, put_places}
use Rattle.hx_quota.proofs.RingTable.{ring_pushed}
use Rattle.hx_quota.proofs.Ringed.{ringed_none, ringed_added, no_ring}
use Rattle.hx_quota.proofs.ledger.Ledger.add.Goals as goal

absent : (o : Option Place) → entry_in o ≡ None → o ≡ None
absent None h = refl
absent (Some p) h = absurd (none-some p.entry (sym h))

no_place : (places : Places) (n : List ℕ) → entry_of (ordered places) n ≡ None → place_at places n ≡ None
no_place places n none = absent (place_at places n) (sym (entry_at places n) ∙ none)

pub insert-requires-clause-absent : goal.insert-requires-clause-absent
insert-requires-clause-absent c =
    let places = c.args.self.now.places in
    no_place places.entries c.args.ns (ringed_none places.rings (ordered places.entries) c.args.ns c.requires.absent)

away : (c : goal.After-insert) → entry_of (ordered c.args.self.now.places.entries) c.args.ns ≡ None
away c =
    let places = c.args.self.now.places in
    ringed_none places.rings (ordered places.entries) c.args.ns c.requires.absent

looks : (c : goal.After-insert) (q : List ℕ) → place_at c.insert.new.self.entries q ≡ cond (bytes_eq c.args.ns q) (Some new_place) (place_at c.args.self.now.places.entries q)
looks c q = ap (λ xs. place_at xs q) c.insert.ensures.entries ∙ place_added c.args.self.now.places.entries c.args.ns new_place (no_place c.args.self.now.places.entries c.args.ns (away c)) q

opened : (c : goal.After-insert) → ordered c.insert.new.self.entries ≡ with_entry c.args.ns new_entry (ordered c.args.self.now.places.entries)
opened c = put_places c.insert.new.self.entries c.args.self.now.places.entries c.args.ns new_place (looks c)

links : (c : goal.After-insert) (q : List ℕ) → ring_in c.insert.new.self.rings q ≡ ring_in c.args.self.now.places.rings q
links c q = ap (λ ls. ring_in ls q) c.insert.ensures.rings ∙ ring_pushed c.args.self.now.places.rings c.args.ns q

pub returns-clause-entries : goal.returns-clause-entries
returns-clause-entries c =
    let old = c.args.self.now.places in
    let es = ordered old.entries in
    ap (with_rings c.insert.new.self.rings) (opened c)
    ∙ ringed_added old.rings c.insert.new.self.rings c.args.ns es (ascends-values (entries_in old.entries)) (links c c.args.ns ∙ no_ring old.rings es c.requires.kept.rings c.args.ns (away c)) (λ q out. links c q)

pub returns-clause-kept : goal.returns-clause-kept
returns-clause-kept c =
    let kept = c.requires.kept in
    let old = c.args.self.now.places in
    let es = ordered old.entries in
    let ns = c.args.ns in
    let new = opened c in
    let closed = closed_all es kept.opened.ended in
    record {
      opened = record {
        summed = summed_added old.entries c.insert.new.self.entries ns new_place (away c) refl (looks c) new closed kept.opened.summed;
        ended = subst (λ (xs : Entries). AllEnd (tree_of xs)) (sym new) (ends_added es ns (away c) kept.opened.ended);
      };
      rings = subst (λ (xs : Entries). AreRings (ring_in c.insert.new.self.rings) (tree_of xs)) (sym new)
          (λ m q link. rings_added (ring_in old.rings) es ns (away c) closed kept.rings m q (sym (links c m) ∙ link));
      none = λ straight q. links c q ∙ kept.none straight q;
    }
