use Rattle.std.proofs.Common.{◌≡◌, true, false, Some, List, ℕ, [], ◌∷◌, None, is_some, sym, ap, subst, ◌∙◌}
use Rattle.std.specs.Str.{bytes_eq}
use Rattle.hx_model.specs.Forest.{subtree_of}
use Rattle.hx_model.specs.declared.resource.Resource.{Resource}
use Rattle.hx_quota.specs.Counters.{Entries, entry_of, own_in, tree_of, without_entry}
use Rattle.hx_quota.specs.PlaceRows.{ring_in}
use Rattle.hx_quota.specs.RingLinks.{with_rings, AreRings}
use Rattle.hx_quota.specs.Inside.{ordered, AllEnd}
use Rattle.hx_quota.proofs.Ending.{closed_all}
use Rattle.hx_quota.proofs.Keeping.{no_other_child, summed_removed}
use Rattle.hx_quota.proofs.Lasting.{ends_removed}
use Rattle.hx_quota.proofs.Opened.{fewer, none_then, others_stay, rings_removed}
use Rattle.hx_quota.proofs.Placed.{cut_places}
use Rattle.hx_quota.proofs.Ringed.{own_ringed, ringed_some, ringed_removed, alone_open, ringless}
use Rattle.hx_quota.proofs.UsedSums.{removed_new}
use Rattle.hx_quota.proofs.ledger.Ledger.remove.Goals as goal

pub swap_remove-requires-clause-childless : goal.swap_remove-requires-clause-childless
swap_remove-requires-clause-childless c =
    let places = c.args.self.now.places in
    let es = ordered places.entries in
    let ns = c.args.ns.now in
    let there : is_some (entry_of es ns) ≡ true = sym (ringed_some places.rings es ns) ∙ c.requires.there in
    no_other_child places.entries ns (alone_open places.rings es c.requires.kept.rings ns c.requires.alone there) there

pub swap_remove-requires-clause-ringless : goal.swap_remove-requires-clause-ringless
swap_remove-requires-clause-ringless c =
    let places = c.args.self.now.places in
    let es = ordered places.entries in
    let ns = c.args.ns.now in
    ringless places.rings es c.requires.kept.rings ns c.requires.alone (sym (ringed_some places.rings es ns) ∙ c.requires.there)

there : (c : goal.After-swap_remove) → is_some (entry_of (ordered c.args.self.now.places.entries) c.args.ns.now) ≡ true
there c = sym (ringed_some c.args.self.now.places.rings (ordered c.args.self.now.places.entries) c.args.ns.now) ∙ c.requires.there

alone : (c : goal.After-swap_remove) → subtree_of (tree_of (ordered c.args.self.now.places.entries)) c.args.ns.now ≡ c.args.ns.now ∷ []
alone c = alone_open c.args.self.now.places.rings (ordered c.args.self.now.places.entries) c.requires.kept.rings c.args.ns.now c.requires.alone (there c)

without : (c : goal.After-swap_remove) (m : List ℕ) → bytes_eq c.args.ns.now m ≡ false → ring_in c.args.self.now.places.rings m ≡ Some c.args.ns.now → ⊥
without c = ringless c.args.self.now.places.rings (ordered c.args.self.now.places.entries) c.requires.kept.rings c.args.ns.now c.requires.alone (there c)

less : (c : goal.After-swap_remove) → ordered c.swap_remove.new.self.entries ≡ without_entry c.args.ns.now (ordered c.args.self.now.places.entries)
less c = cut_places c.swap_remove.new.self.entries c.args.self.now.places.entries c.args.ns.now c.swap_remove.ensures.places

pub returns-clause-entries : goal.returns-clause-entries
returns-clause-entries c =
    let old = c.args.self.now.places in
    let new = c.swap_remove.new.self in
    ap (with_rings new.rings) (less c) ∙ ringed_removed old.rings new.rings c.args.ns.now (others_stay (ring_in old.rings) (ring_in new.rings) c.args.ns.now None c.swap_remove.ensures.rings) (ordered old.entries)

pub returns-clause-kept : goal.returns-clause-kept
returns-clause-kept c =
    let kept = c.requires.kept in
    let old = c.args.self.now.places in
    let new = c.swap_remove.new.self in
    let es = ordered old.entries in
    let ns = c.args.ns.now in
    let updates = c.swap_remove.ensures.places in
    let closed = closed_all es kept.opened.ended in
    let nothing : (r : Resource) → own_in es ns r ≡ 0 = λ r. sym (own_ringed old.rings es ns r) ∙ c.requires.nothing r in
    record {
      opened = record {
        summed = summed_removed old.entries new.entries ns (there c) nothing (alone c) updates (less c) closed kept.opened.summed;
        ended = subst (λ (xs : Entries). AllEnd (tree_of xs)) (sym (less c)) (ends_removed es ns (alone c) (there c) kept.opened.ended);
      };
      rings = subst (λ (xs : Entries). AreRings (ring_in new.rings) (tree_of xs)) (sym (less c))
          (rings_removed (ring_in old.rings) (ring_in new.rings) es ns (removed_new es ns (alone c) (there c) closed) kept.rings (without c) (fewer (ring_in old.rings) (ring_in new.rings) ns c.swap_remove.ensures.rings));
      none = λ straight q. none_then (ring_in old.rings) (ring_in new.rings) ns c.swap_remove.ensures.rings (kept.none straight) q;
    }
