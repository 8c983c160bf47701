use Rattle.std.proofs.Common.{◌≡◌, ◌<◌, Option, List, ℕ, Some, None, is_some, length, option_map, slice_index, sym, ap, subst, ◌∙◌}
use Rattle.std.specs.Prelude.{IfSome}
use Rattle.std.specs.List.{IsDistinct}
use Rattle.std.specs.Str.{bytes_eq}
use Rattle.hx_quota.specs.Counters.{entry_of, tree_of, used_in}
use Rattle.hx_quota.specs.PlaceRows.{place_at, IsFoundAt, ring_in}
use Rattle.hx_quota.specs.RingLinks.{IsRingTop}
use Rattle.hx_quota.specs.Inside.{entries_in, entries_of, ordered}
use Rattle.hx_quota.specs.Anew.{name_from, named}
use Rattle.hx_quota.proofs.Opened.{tree_at}
use Rattle.hx_quota.proofs.Placed.{entry_in, entry_at, same_keys}
use Rattle.hx_quota.proofs.Reached.{found_named, lies_at, named_at}
use Rattle.hx_quota.proofs.Ringed.{ringed, ringed_entry, used_apart, used_round}
use Rattle.hx_quota.proofs.UsedSums.{in_tree, used_absent}
use Rattle.hx_quota.proofs.ledger.Ledger.used.Goals as goal

pub returns-in_default : goal.returns-in_default
returns-in_default c =
    let places = c.args.self.now.places.entries in
    let rings = c.args.self.now.places.rings in
    let ns = c.args.ns.now in
    let away : place_at places ns ≡ None = subst (λ (o : Option ℕ). IsFoundAt places ns o) c.in_default.is c.index_of.ensures.place in
    let none : entry_of (entries_of c.args.self.now) ns ≡ None = ringed_entry rings (ordered places) ns ∙ ap (option_map (ringed rings ns)) (entry_at places ns ∙ ap entry_in away) in
    sym (used_absent (entries_of c.args.self.now) ns c.args.resource none)

pub returns-in-Some-ring_top : goal.returns-in-Some-ring_top
returns-in-Some-ring_top c =
    let places = c.args.self.now.places.entries in
    let rings = c.args.self.now.places.rings in
    let es = ordered places in
    let kept = c.requires.kept in
    let ns = c.args.ns.now in
    let top = c.in-Some-ring_top.top in
    let n = named (entries_in places) c.in-Some.at in
    let t = named (entries_in places) top in
    let name : n ≡ ns = found_named places ns c.in-Some.at (subst (λ (o : Option ℕ). IsFoundAt places ns o) c.in-Some.is c.index_of.ensures.place) in
    let within : top < length places = subst (λ (o : Option ℕ). IfSome o (λ i. i < length places)) c.in-Some-ring_top.is c.ring_top.ensures.within in
    let found = lies_at places (subst (λ (ks : List (List ℕ)). IsDistinct bytes_eq ks) (sym (same_keys places)) c.sum_at.ensures.distinct) top within in
    let is : IsRingTop (ring_in rings) (tree_of es) n (Some t) = subst (λ (o : Option (List ℕ)). IsRingTop (ring_in rings) (tree_of es) n o) (ap (name_from (entries_in places)) c.in-Some-ring_top.is ∙ named_at places top within) c.ring_top.ensures.top in
    c.sum_at.ensures.sum t found.0 found.1 ∙ ap (slice_index found.0.sums) c.place_of.ensures.place ∙ kept.opened.summed t found.0 found.2 (kept.opened.ended t (tree_at places kept.opened.ended top within)) c.args.resource
    ∙ sym (used_round rings es kept.rings n t is c.args.resource) ∙ ap (λ (m : List ℕ). used_in (entries_of c.args.self.now) m c.args.resource) name

pub returns-in-None : goal.returns-in-None
returns-in-None c =
    let places = c.args.self.now.places.entries in
    let rings = c.args.self.now.places.rings in
    let es = ordered places in
    let kept = c.requires.kept in
    let ns = c.args.ns.now in
    let n = named (entries_in places) c.in-Some.at in
    let lies : IsFoundAt places ns (Some c.in-Some.at) = subst (λ (o : Option ℕ). IsFoundAt places ns o) c.in-Some.is c.index_of.ensures.place in
    let name : n ≡ ns = found_named places ns c.in-Some.at lies in
    let is : IsRingTop (ring_in rings) (tree_of es) n None = subst (λ (o : Option (List ℕ)). IsRingTop (ring_in rings) (tree_of es) n o) (ap (name_from (entries_in places)) c.in-None.is) c.ring_top.ensures.top in
    c.sum_at-in-None.ensures.sum ns lies.0 lies.1 ∙ ap (slice_index lies.0.sums) c.place_of-in-None.ensures.place ∙ kept.opened.summed ns lies.0 lies.2 (kept.opened.ended ns (in_tree es ns ∙ ap is_some (entry_at places ns ∙ ap entry_in lies.2))) c.args.resource
    ∙ ap (λ (m : List ℕ). used_in es m c.args.resource) (sym name) ∙ sym (used_apart rings es kept.rings n is c.args.resource) ∙ ap (λ (m : List ℕ). used_in (entries_of c.args.self.now) m c.args.resource) name
