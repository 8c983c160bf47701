use Rattle.std.proofs.Common.{◌≡◌, ◌<◌, List, ℕ, Some, cond, length, sym, subst, ◌∙◌, ap}
use Rattle.std.specs.Prelude.{IfSome, option_and_then, option_map, slice_get}
use Rattle.std.specs.List.{IsDistinct}
use Rattle.std.specs.Str.{bytes_eq}
use Rattle.hx_quota.specs.PlaceRows.{Link, PlacesView, Ups, linked, placed, ring_in, AreUps}
use Rattle.hx_quota.proofs.Joined.{keys_joined, length_joined, name_joined, up_joined}
use Rattle.hx_quota.proofs.Linked.{length_linked, name_linked, linked_set, ups_set}
use Rattle.hx_quota.proofs.Reached.{found_row}
use Rattle.hx_quota.proofs.RingTable.{ring_set, ring_table}
use Rattle.hx_quota.proofs.place_table.PlaceTable.set_ring.Goals as goal

pub set-requires : goal.set-requires
set-requires c =
    let t = c.self.inside in
    let names = t.names.keys in
    let links = linked names names t.ups.items in
    let within : IfSome c.args.up (λ i. i < length names) =
    subst (λ (k : ℕ). IfSome c.args.up (λ i. i < k)) (length_joined links t.own.items t.sums.rows ∙ length_linked names names t.ups.items) (subst (λ (v : PlacesView). IfSome c.args.up (λ i. i < length v.entries)) (sym c.self.view_is) c.requires) in
    subst (λ (k : ℕ). IfSome c.args.up (λ i. i < k)) (sym c.self.invariant.2.0) within

pub invariant_of-self : goal.invariant_of-self
invariant_of-self c =
    let t = c.self.inside in
    let names = t.names.keys in
    let links = linked names names t.ups.items in
    let within : IfSome c.args.up (λ i. i < length names) =
    subst (λ (k : ℕ). IfSome c.args.up (λ i. i < k)) (length_joined links t.own.items t.sums.rows ∙ length_linked names names t.ups.items) (subst (λ (v : PlacesView). IfSome c.args.up (λ i. i < length v.entries)) (sym c.self.view_is) c.requires) in (
      c.self.invariant.0,
      c.self.invariant.1,
      subst (λ (ups : Ups). AreUps names ups) (sym c.set.ensures.items) (ups_set names t.rings.items c.args.at c.args.up within c.self.invariant.2),
    )

pub returns-clause-rings : goal.returns-clause-rings
returns-clause-rings c =
    let t = c.self.inside in
    let names = t.names.keys in
    let at = c.args.at in
    let links = linked names names t.ups.items in
    let rings = linked names names t.rings.items in
    rw (← c.self.view_is) (λ n lies q.
    let named : option_map (λ (e : List ℕ × Link). e.0) (slice_get rings at) ≡ Some n =
    name_linked names names t.rings.items at ∙ sym (name_linked names names t.ups.items at) ∙ sym (name_joined links t.own.items t.sums.rows at) ∙ found_row (placed names t.ups.items t.own.items t.sums.rows) n at lies in
    ap (λ (us : Ups). ring_in (linked names names us) q) c.set.ensures.items ∙ ap (λ ls. ring_in ls q) (linked_set names names t.rings.items c.self.invariant.2.0 at c.args.up)
    ∙ ring_set rings at n (option_and_then (slice_get names) c.args.up) (ring_table names t.ups.items t.rings.items t.own.items t.sums.rows c.self.invariant.0).distinct named q
    ∙ ap (λ (l : Link). cond (bytes_eq n q) l (ring_in rings q)) (sym (up_joined links t.own.items t.sums.rows names (name_linked names names t.ups.items) c.args.up)))

pub returns-clause-distinct : goal.returns-clause-distinct
returns-clause-distinct c =
    let t = c.self.inside in
    rw (← c.self.view_is) (subst (λ (ks : List (List ℕ)). IsDistinct bytes_eq ks) (sym (keys_joined (linked t.names.keys t.names.keys t.ups.items) t.own.items t.sums.rows)) c.self.invariant.0.distinct)
