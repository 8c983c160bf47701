use Rattle.std.proofs.Common.{◌≡◌, false, Some, None, ℕ, ap, sym, subst, ◌∙◌, arith}
use Rattle.std.specs.Map.{keys_of}
use Rattle.std.specs.Option.{option_map_or}
use Rattle.std.specs.Str.{bytes_eq}
use Rattle.hx_model.specs.Forest.{parent_of, in_chain}
use Rattle.hx_forest.proofs.Named.{ascends-values}
use Rattle.hx_quota.specs.Counters.{Entries, tree_of, with_parent, AllFit}
use Rattle.hx_quota.specs.PlaceRows.{Links, Places, ring_in}
use Rattle.hx_quota.specs.RingLinks.{with_rings, AreRings}
use Rattle.hx_quota.specs.Inside.{entries_in, ordered, IsOpen}
use Rattle.hx_quota.specs.Anew.{name_from, named}
use Rattle.hx_quota.proofs.Around.{free_link}
use Rattle.hx_quota.proofs.Fitting.{fits_moved}
use Rattle.hx_quota.proofs.Moved.{tree_moved}
use Rattle.hx_quota.proofs.Opened.{names_from, same_named, apart_at, tree_at, fewer, this_then, none_then, others_stay, free_inside, opened_entries, rings_out_of, root_out_of}
use Rattle.hx_quota.proofs.Ringed.{fits_open, ringed_linked}
use Rattle.hx_quota.proofs.ledger.Ledger.turn_ring.Goals as goal

pub returns-then-top-at-clause-entries : goal.returns-then-top-at-clause-entries
returns-then-top-at-clause-entries c =
    let old = c.args.self.now.places in
    let now = c.set_ring.new.places in
    let es = ordered old.entries in
    let n = named (entries_in old.entries) c.args.at in
    let t = named (entries_in old.entries) c.args.top in
    let top = c.requires.top in
    let kept = c.requires.kept in
    let is = c.set_ring.ensures.rings in
    ap (λ (places : Places). with_rings now.rings (ordered places)) c.set_ring.ensures.entries
    ∙ ringed_linked old.rings now.rings t None es (ascends-values (entries_in old.entries)) (kept.rings t top.0 top.2).0 (this_then (ring_in old.rings) (ring_in now.rings) t None is) (others_stay (ring_in old.rings) (ring_in now.rings) t None is)
    ∙ ap (λ (k : ℕ). with_parent (named (entries_in old.entries) k) None (with_rings old.rings es)) c.if-top-at.true

pub returns-then-top-at-clause-kept : goal.returns-then-top-at-clause-kept
returns-then-top-at-clause-kept c =
    let old = c.args.self.now.places in
    let now = c.set_ring.new.places in
    let es = ordered old.entries in
    let n = named (entries_in old.entries) c.args.at in
    let t = named (entries_in old.entries) c.args.top in
    let top = c.requires.top in
    let kept = c.requires.kept in
    let is = c.set_ring.ensures.rings in
    let same = c.set_ring.ensures.entries in
    record {
      opened = subst (λ (places : Places). IsOpen places) (sym same) kept.opened;
      rings = subst (λ (places : Places). AreRings (ring_in now.rings) (tree_of (ordered places))) (sym same) (λ m q link. kept.rings m q (fewer (ring_in old.rings) (ring_in now.rings) t is m q link).0);
      none = λ straight q. none_then (ring_in old.rings) (ring_in now.rings) t is (kept.none straight) q;
    }

pub move_open-requires-clause-fits : goal.move_open-requires-clause-fits
move_open-requires-clause-fits c =
    let old = c.args.self.now.places in
    subst (λ (places : Places). AllFit (ordered places)) (sym c.set_ring.ensures.entries) (fits_open old.rings (ordered old.entries) c.requires.fits)

pub move_open-requires-2-clause-free : goal.move_open-requires-2-clause-free
move_open-requires-2-clause-free c =
    let old = c.args.self.now.places in
    let now = c.set_ring.new.places in
    let es = ordered old.entries in
    let n = named (entries_in old.entries) c.args.at in
    let t = named (entries_in old.entries) c.args.top in
    let top = c.requires.top in
    let kept = c.requires.kept in
    let is = c.set_ring.ensures.rings in
    let there = tree_at old.entries kept.opened.ended c.args.at c.requires.within in
    let out : bytes_eq t n ≡ false = apart_at old.entries c.ring_at-up.ensures.distinct c.args.top c.args.at c.requires.inside c.requires.within (λ same. absurd (omega (arith, same, c.if-top-at.false))) in
    let mid = c.move_open.new.places in
    let keys : keys_of mid.entries ≡ keys_of old.entries = c.move_open.ensures.names ∙ ap (λ (places : Places). keys_of places) c.set_ring.ensures.entries in
    let parted : ordered mid.entries ≡ with_parent n None es = c.move_open.ensures.entries ∙ ap (λ (places : Places). with_parent (named (entries_in places) c.args.at) None (ordered places)) c.set_ring.ensures.entries in
    let name = same_named mid.entries old.entries keys c.args.top in
    let leads : name_from (entries_in mid.entries) c.ring_at-up.result ≡ Some top.0 = names_from mid.entries old.entries keys c.ring_at-up.result ∙ c.ring_at-up.ensures.ring ∙ top.2 in
    let trees = ap tree_of parted ∙ tree_moved n None es in
    (λ i. option_map_or (λ q. in_chain (trees i) q (name i)) (leads i) false)
    ∙ free_link (ring_in old.rings) (ring_in now.rings) (tree_of es) kept.rings n t top.0 there top.1 top.2 top.3 out (fewer (ring_in old.rings) (ring_in now.rings) t is)

pub move_open-requires-2-clause-fits : goal.move_open-requires-2-clause-fits
move_open-requires-2-clause-fits c =
    let old = c.args.self.now.places in
    let now = c.set_ring.new.places in
    let es = ordered old.entries in
    let n = named (entries_in old.entries) c.args.at in
    let t = named (entries_in old.entries) c.args.top in
    let top = c.requires.top in
    let kept = c.requires.kept in
    let is = c.set_ring.ensures.rings in
    let there = tree_at old.entries kept.opened.ended c.args.at c.requires.within in
    let out : bytes_eq t n ≡ false = apart_at old.entries c.ring_at-up.ensures.distinct c.args.top c.args.at c.requires.inside c.requires.within (λ same. absurd (omega (arith, same, c.if-top-at.false))) in
    let mid = c.move_open.new.places in
    let keys : keys_of mid.entries ≡ keys_of old.entries = c.move_open.ensures.names ∙ ap (λ (places : Places). keys_of places) c.set_ring.ensures.entries in
    let parted : ordered mid.entries ≡ with_parent n None es = c.move_open.ensures.entries ∙ ap (λ (places : Places). with_parent (named (entries_in places) c.args.at) None (ordered places)) c.set_ring.ensures.entries in
    let name = same_named mid.entries old.entries keys c.args.top in
    let leads : name_from (entries_in mid.entries) c.ring_at-up.result ≡ Some top.0 = names_from mid.entries old.entries keys c.ring_at-up.result ∙ c.ring_at-up.ensures.ring ∙ top.2 in
    fits_moved es (ordered mid.entries) n None parted (fits_open old.rings es c.requires.fits)

pub returns-clause-entries : goal.returns-clause-entries
returns-clause-entries c =
    let old = c.args.self.now.places in
    let now = c.set_ring.new.places in
    let es = ordered old.entries in
    let n = named (entries_in old.entries) c.args.at in
    let t = named (entries_in old.entries) c.args.top in
    let top = c.requires.top in
    let kept = c.requires.kept in
    let is = c.set_ring.ensures.rings in
    let there = tree_at old.entries kept.opened.ended c.args.at c.requires.within in
    let out : bytes_eq t n ≡ false = apart_at old.entries c.ring_at-up.ensures.distinct c.args.top c.args.at c.requires.inside c.requires.within (λ same. absurd (omega (arith, same, c.if-top-at.false))) in
    let mid = c.move_open.new.places in
    let keys : keys_of mid.entries ≡ keys_of old.entries = c.move_open.ensures.names ∙ ap (λ (places : Places). keys_of places) c.set_ring.ensures.entries in
    let parted : ordered mid.entries ≡ with_parent n None es = c.move_open.ensures.entries ∙ ap (λ (places : Places). with_parent (named (entries_in places) c.args.at) None (ordered places)) c.set_ring.ensures.entries in
    let name = same_named mid.entries old.entries keys c.args.top in
    let leads : name_from (entries_in mid.entries) c.ring_at-up.result ≡ Some top.0 = names_from mid.entries old.entries keys c.ring_at-up.result ∙ c.ring_at-up.ensures.ring ∙ top.2 in
    let new = c.move_open-2.new.places in
    let last : ordered new.entries ≡ with_parent t (Some top.0) (with_parent n None es) = c.move_open-2.ensures.entries ∙ (λ i. with_parent (name i) (leads i) (parted i)) in
    let links : new.rings ≡ now.rings = c.move_open-2.ensures.rings ∙ c.move_open.ensures.rings in
    (λ i. with_rings (links i) (last i)) ∙ opened_entries old.rings es kept.rings n there now.rings t top.0 (ascends-values (entries_in old.entries)) top.1 top.2 out is

pub returns-clause-free : goal.returns-clause-free
returns-clause-free c =
    let old = c.args.self.now.places in
    let now = c.set_ring.new.places in
    let es = ordered old.entries in
    let n = named (entries_in old.entries) c.args.at in
    let t = named (entries_in old.entries) c.args.top in
    let top = c.requires.top in
    let kept = c.requires.kept in
    let is = c.set_ring.ensures.rings in
    let there = tree_at old.entries kept.opened.ended c.args.at c.requires.within in
    let out : bytes_eq t n ≡ false = apart_at old.entries c.ring_at-up.ensures.distinct c.args.top c.args.at c.requires.inside c.requires.within (λ same. absurd (omega (arith, same, c.if-top-at.false))) in
    let mid = c.move_open.new.places in
    let keys : keys_of mid.entries ≡ keys_of old.entries = c.move_open.ensures.names ∙ ap (λ (places : Places). keys_of places) c.set_ring.ensures.entries in
    let parted : ordered mid.entries ≡ with_parent n None es = c.move_open.ensures.entries ∙ ap (λ (places : Places). with_parent (named (entries_in places) c.args.at) None (ordered places)) c.set_ring.ensures.entries in
    let name = same_named mid.entries old.entries keys c.args.top in
    let leads : name_from (entries_in mid.entries) c.ring_at-up.result ≡ Some top.0 = names_from mid.entries old.entries keys c.ring_at-up.result ∙ c.ring_at-up.ensures.ring ∙ top.2 in
    let new = c.move_open-2.new.places in
    let last : ordered new.entries ≡ with_parent t (Some top.0) (with_parent n None es) = c.move_open-2.ensures.entries ∙ (λ i. with_parent (name i) (leads i) (parted i)) in
    let links : new.rings ≡ now.rings = c.move_open-2.ensures.rings ∙ c.move_open.ensures.rings in
    record {
      root = ap (λ (xs : Entries). parent_of (tree_of xs) n) last ∙ root_out_of old.rings es kept.rings n there now.rings t top.0 (ascends-values (entries_in old.entries)) top.1 top.2 out is;
      free = ap (λ (ls : Links). ring_in ls n) links ∙ others_stay (ring_in old.rings) (ring_in now.rings) t None is n out ∙ free_inside old.rings es kept.rings n there now.rings t top.0 (ascends-values (entries_in old.entries)) top.1 top.2 out is;
    }

pub returns-clause-kept : goal.returns-clause-kept
returns-clause-kept c =
    let old = c.args.self.now.places in
    let now = c.set_ring.new.places in
    let es = ordered old.entries in
    let n = named (entries_in old.entries) c.args.at in
    let t = named (entries_in old.entries) c.args.top in
    let top = c.requires.top in
    let kept = c.requires.kept in
    let is = c.set_ring.ensures.rings in
    let there = tree_at old.entries kept.opened.ended c.args.at c.requires.within in
    let out : bytes_eq t n ≡ false = apart_at old.entries c.ring_at-up.ensures.distinct c.args.top c.args.at c.requires.inside c.requires.within (λ same. absurd (omega (arith, same, c.if-top-at.false))) in
    let mid = c.move_open.new.places in
    let keys : keys_of mid.entries ≡ keys_of old.entries = c.move_open.ensures.names ∙ ap (λ (places : Places). keys_of places) c.set_ring.ensures.entries in
    let parted : ordered mid.entries ≡ with_parent n None es = c.move_open.ensures.entries ∙ ap (λ (places : Places). with_parent (named (entries_in places) c.args.at) None (ordered places)) c.set_ring.ensures.entries in
    let name = same_named mid.entries old.entries keys c.args.top in
    let leads : name_from (entries_in mid.entries) c.ring_at-up.result ≡ Some top.0 = names_from mid.entries old.entries keys c.ring_at-up.result ∙ c.ring_at-up.ensures.ring ∙ top.2 in
    let new = c.move_open-2.new.places in
    let last : ordered new.entries ≡ with_parent t (Some top.0) (with_parent n None es) = c.move_open-2.ensures.entries ∙ (λ i. with_parent (name i) (leads i) (parted i)) in
    let links : new.rings ≡ now.rings = c.move_open-2.ensures.rings ∙ c.move_open.ensures.rings in
    record {
      opened = c.move_open-2.ensures.opened;
      rings = subst (λ (ls : Links). AreRings (ring_in ls) (tree_of (ordered new.entries))) (sym links)
          (subst (λ (xs : Entries). AreRings (ring_in now.rings) (tree_of xs)) (sym last) (rings_out_of old.rings es kept.rings n there now.rings t top.0 (ascends-values (entries_in old.entries)) top.1 top.2 out is top.3));
      none = λ straight q. ap (λ (ls : Links). ring_in ls q) links ∙ none_then (ring_in old.rings) (ring_in now.rings) t is (kept.none straight) q;
    }
