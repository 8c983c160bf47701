use Rattle.std.proofs.Common.{◌≡◌, true, Option, Some, None, is_some, List, [], ◌∷◌, ℕ, option_map, ap, sym, subst, refl, ◌∙◌, true≢false}
use Rattle.std.proofs.lemmas.Option.{same_Some}
use Rattle.hx_model.specs.Forest.{Forest, is_in, chain_of}
use Rattle.hx_model.specs.Moves.{chain_from}
use Rattle.hx_quota.specs.declared.entry.Delta.{Delta}
use Rattle.hx_quota.specs.Counters.{Entries, tree_of, shifted, with_shifted, HaveOld, AllFit}
use Rattle.hx_quota.specs.PlaceRows.{Links, Place, Places, IsFoundAt, ring_in}
use Rattle.hx_quota.specs.RingLinks.{with_rings, AreRings}
use Rattle.hx_quota.specs.Inside.{entries_of, entries_from, ordered, place_at, IsAdjusted, OwnFit, AllEnd, ends_up}
use Rattle.hx_quota.proofs.Deltas.{sums_first, shift_in}
use Rattle.hx_quota.proofs.Ended.{ends_chain}
use Rattle.hx_quota.proofs.Fitting.{own_fits}
use Rattle.hx_quota.proofs.Keeping.{ended_by_shift}
use Rattle.hx_quota.proofs.Placed.{entry_in, entry_at}
use Rattle.hx_quota.proofs.Reached.{found_row}
use Rattle.hx_quota.proofs.Ringed.{ringed, ringed_entry, ringed_shifted, fits_open}
use Rattle.hx_quota.proofs.Shifted.{between_entries, between_chains, may_shift_sums, sums_shifted}
use Rattle.hx_quota.proofs.UsedSums.{in_tree, same_tree}
use Rattle.hx_quota.proofs.ledger.Ledger.shift.Goals as goal

-- it fits without the links that close rings
open_fits : (rings : Links) (places : Places) (ns : List ℕ) (deltas : List Delta) → AllFit (with_shifted (ns ∷ []) deltas (with_rings rings (ordered places))) → AllFit (with_shifted (ns ∷ []) deltas (ordered places))
open_fits rings places ns deltas fits = fits_open rings (with_shifted (ns ∷ []) deltas (ordered places)) (subst (λ (es : Entries). AllFit es) (sym (ringed_shifted rings ns deltas (ordered places))) fits)

-- the walk up from it ends
top : (places : Places) (ns : List ℕ) (at : ℕ) → AllEnd (tree_of (ordered places)) → IsFoundAt places ns (Some at) → ends_up (tree_of (ordered places)) ns ≡ true
top places ns at all lies = all ns (in_tree (ordered places) ns ∙ ap is_some (entry_at places ns ∙ ap entry_in lies.2))

pub shift_own-change-requires-clause-old : goal.shift_own-change-requires-clause-old
shift_own-change-requires-clause-old c = λ n p is.
    let places = c.args.self.now.places.entries in
    let ns = c.args.ns.now in
    let lies : IsFoundAt places ns (Some c.in-Some.at) = subst (λ (o : Option ℕ). IsFoundAt places ns o) c.in-Some.is c.index_near.ensures.place in
    let rings = c.args.self.now.places.rings in
    let old = subst (λ (own : List ℕ). HaveOld c.args.deltas.now own) (sums_first (entries_of c.args.self.now) (ns ∷ []) ns (ringed rings ns lies.0.entry) refl (ringed_entry rings (ordered places) ns ∙ ap (option_map (ringed rings ns)) (entry_at places ns ∙ ap entry_in lies.2))) c.requires.old in
    subst (λ (e : List ℕ × Place). HaveOld c.args.deltas.now e.1.entry.own) (same_Some {A = List ℕ × Place} (ns, lies.0) (n, p) (sym lies.1 ∙ is)) old

pub shift_own-change-requires-clause-fits : goal.shift_own-change-requires-clause-fits
shift_own-change-requires-clause-fits c = λ n p is.
    let places = c.args.self.now.places.entries in
    let ns = c.args.ns.now in
    let lies : IsFoundAt places ns (Some c.in-Some.at) = subst (λ (o : Option ℕ). IsFoundAt places ns o) c.in-Some.is c.index_near.ensures.place in
    let fits = own_fits (ordered places) ns (shift_in c.args.deltas.now) lies.0.entry (entry_at places ns ∙ ap entry_in lies.2) (open_fits c.args.self.now.places.rings c.args.self.now.places.entries c.args.ns.now c.args.deltas.now c.requires.fits) in
    subst (λ (e : List ℕ × Place). OwnFit (shifted c.args.deltas.now e.1.entry.own)) (same_Some {A = List ℕ × Place} (ns, lies.0) (n, p) (sym lies.1 ∙ is)) fits

away : (c : goal.In_default) → place_at c.args.self.now.places.entries c.args.ns.now ≡ None
away c = subst (λ (o : Option ℕ). IsFoundAt c.args.self.now.places.entries c.args.ns.now o) c.in_default.is c.index_near.ensures.place

pub returns-in_default-clause-entries : goal.returns-in_default-clause-entries
returns-in_default-clause-entries c =
    let rings = c.args.self.now.places.rings in
    let places = c.args.self.now.places.entries in
    let ns = c.args.ns.now in
    absurd (true≢false (sym c.requires.there ∙ ap is_some (ringed_entry rings (ordered places) ns ∙ ap (option_map (ringed rings ns)) (entry_at places ns ∙ ap entry_in (away c)))))

pub returns-in_default-clause-kept : goal.returns-in_default-clause-kept
returns-in_default-clause-kept c = c.requires.kept

pub adjust_up-requires-clause-ends : goal.adjust_up-requires-clause-ends
adjust_up-requires-clause-ends c =
    let old = c.args.self.now.places.entries in
    let mid = c.shift_own-change.new.places.entries in
    let ns = c.args.ns.now in
    let lies : IsFoundAt old ns (Some c.in-Some.at) = subst (λ (o : Option ℕ). IsFoundAt old ns o) c.in-Some.is c.index_near.ensures.place in
    let name = found_row old ns c.in-Some.at lies in
    let f = tree_of (ordered old) in
    let trees = between_chains old mid ns c.args.deltas.now c.shift_own-change.result (c.shift_own-change.ensures.shifted ns lies) in
    let along = ap (chain_from (tree_of (ordered mid))) (c.shift_own-change.ensures.name ∙ name) ∙ ap (λ (t : Forest). chain_of t ns) trees in
    λ q mem. subst (λ (t : Forest). ends_up t q ≡ true) (sym trees) (ends_chain f (Some ns) (top old ns c.in-Some.at c.requires.kept.opened.ended lies) q (ap (is_in q) (sym along) ∙ mem))

pub adjust_up-requires-clause-may : goal.adjust_up-requires-clause-may
adjust_up-requires-clause-may c =
    let old = c.args.self.now.places.entries in
    let mid = c.shift_own-change.new.places.entries in
    let ns = c.args.ns.now in
    let lies : IsFoundAt old ns (Some c.in-Some.at) = subst (λ (o : Option ℕ). IsFoundAt old ns o) c.in-Some.is c.index_near.ensures.place in
    let name = found_row old ns c.in-Some.at lies in
    let deltas = c.args.deltas.now in
    let has = c.shift_own-change.ensures.shifted ns lies in
    let along = ap (chain_from (tree_of (ordered mid))) (c.shift_own-change.ensures.name ∙ name) ∙ ap (λ (f : Forest). chain_of f ns) (between_chains old mid ns deltas c.shift_own-change.result has) in
    λ q x mem found. may_shift_sums old mid ns deltas c.shift_own-change.result has (open_fits c.args.self.now.places.rings c.args.self.now.places.entries c.args.ns.now c.args.deltas.now c.requires.fits) c.requires.kept.opened.summed (top old ns c.in-Some.at c.requires.kept.opened.ended lies) q x (ap (is_in q) (sym along) ∙ mem) found

opened : (c : goal.After-adjust_up) → ordered c.adjust_up.new.places.entries ≡ with_shifted (c.args.ns.now ∷ []) c.args.deltas.now (ordered c.args.self.now.places.entries)
opened c =
    let old = c.args.self.now.places.entries in
    let ns = c.args.ns.now in
    let lies : IsFoundAt old ns (Some c.in-Some.at) = subst (λ (o : Option ℕ). IsFoundAt old ns o) c.in-Some.is c.index_near.ensures.place in
    ap entries_from c.adjust_up.ensures.entries ∙ between_entries old c.shift_own-change.new.places.entries ns c.args.deltas.now c.shift_own-change.result (c.shift_own-change.ensures.shifted ns lies)

links : (c : goal.After-adjust_up) → c.adjust_up.new.places.rings ≡ c.args.self.now.places.rings
links c = c.adjust_up.ensures.rings ∙ c.shift_own-change.ensures.rings

pub returns-clause-entries : goal.returns-clause-entries
returns-clause-entries c =
    let old = c.args.self.now.places in
    (λ i. with_rings (links c i) (opened c i)) ∙ ringed_shifted old.rings c.args.ns.now c.args.deltas.now (ordered old.entries)

pub returns-clause-kept : goal.returns-clause-kept
returns-clause-kept c =
    let places = c.args.self.now.places in
    let es = ordered places.entries in
    let old = places.entries in
    let mid = c.shift_own-change.new.places.entries in
    let new = c.adjust_up.new.places.entries in
    let ns = c.args.ns.now in
    let lies : IsFoundAt old ns (Some c.in-Some.at) = subst (λ (o : Option ℕ). IsFoundAt old ns o) c.in-Some.is c.index_near.ensures.place in
    let name = found_row old ns c.in-Some.at lies in
    let deltas = c.args.deltas.now in
    let change = c.shift_own-change.result in
    let has = c.shift_own-change.ensures.shifted ns lies in
    let along = ap (chain_from (tree_of (ordered mid))) (c.shift_own-change.ensures.name ∙ name) ∙ ap (λ (f : Forest). chain_of f ns) (between_chains old mid ns deltas change has) in
    record {
      opened = record {
        summed = sums_shifted old mid ns deltas change has (open_fits c.args.self.now.places.rings c.args.self.now.places.entries c.args.ns.now c.args.deltas.now c.requires.fits) c.requires.kept.opened.summed new
            (subst (λ (names : List (List ℕ)). (q : List ℕ) → IsAdjusted change.take change.give (is_in q names) (place_at mid q) (place_at new q)) along c.adjust_up.ensures.sums);
        ended = ended_by_shift es (ordered new) ns deltas (opened c) c.requires.kept.opened.ended;
      };
      rings = subst (λ (ls : Links). AreRings (ring_in ls) (tree_of (ordered new))) (sym (links c))
          (subst (λ (f : Forest). AreRings (ring_in places.rings) f) (sym (ap tree_of (opened c) ∙ same_tree ns deltas es)) c.requires.kept.rings);
      none = λ straight q. ap (λ (ls : Links). ring_in ls q) (links c) ∙ c.requires.kept.none straight q;
    }
