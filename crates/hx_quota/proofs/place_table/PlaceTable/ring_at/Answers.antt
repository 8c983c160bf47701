use Rattle.std.proofs.Common.{◌≡◌, ◌<◌, length, List, ℕ, Option, Some, slice_get, ap, sym, subst, ◌∙◌}
use Rattle.std.specs.Prelude.{option_and_then, option_map, IfSome}
use Rattle.std.specs.List.{IsDistinct}
use Rattle.std.specs.Str.{bytes_eq}
use Rattle.hx_quota.specs.PlaceRows.{Link, linked, placed}
use Rattle.hx_quota.proofs.Joined.{keys_joined, length_joined, name_joined, up_joined}
use Rattle.hx_quota.proofs.Linked.{length_linked, name_linked, up_linked}
use Rattle.hx_quota.proofs.Reached.{found_row}
use Rattle.hx_quota.proofs.RingTable.{up_within, ring_found, ring_table}
use Rattle.hx_quota.proofs.place_table.PlaceTable.ring_at.Goals as goal

pub returns-clause-within : goal.returns-clause-within
returns-clause-within c =
    let t = c.self.inside in
    let names = t.names.keys in
    let links = linked names names t.ups.items in
    rw (← c.self.view_is) (subst (λ (k : ℕ). IfSome c.get.result (λ i. i < k)) (sym (length_joined links t.own.items t.sums.rows ∙ length_linked names names t.ups.items))
    (subst (λ (o : Option ℕ). IfSome o (λ i. i < length names)) (sym c.get.ensures) (up_within names t.rings.items c.self.invariant.2 c.args.at)))

pub returns-clause-ring : goal.returns-clause-ring
returns-clause-ring c =
    let t = c.self.inside in
    let names = t.names.keys in
    let at = c.args.at in
    let links = linked names names t.ups.items in
    let rings = linked names names t.rings.items in
    rw (← c.self.view_is) (λ n lies.
    let named : option_map (λ (e : List ℕ × Link). e.0) (slice_get rings at) ≡ Some n =
    name_linked names names t.rings.items at ∙ sym (name_linked names names t.ups.items at) ∙ sym (name_joined links t.own.items t.sums.rows at) ∙ found_row (placed names t.ups.items t.own.items t.sums.rows) n at lies in
    up_joined links t.own.items t.sums.rows names (name_linked names names t.ups.items) c.get.result ∙ ap (λ (o : Option ℕ). option_and_then (slice_get names) o) c.get.ensures
    ∙ sym (up_linked names names t.rings.items c.self.invariant.2.0 at) ∙ ring_found rings at n (ring_table names t.ups.items t.rings.items t.own.items t.sums.rows c.self.invariant.0).distinct named)

pub returns-clause-distinct : goal.returns-clause-distinct
returns-clause-distinct c =
    let t = c.self.inside in
    rw (← c.self.view_is) (subst (λ (ks : List (List ℕ)). IsDistinct bytes_eq ks) (sym (keys_joined (linked t.names.keys t.names.keys t.ups.items) t.own.items t.sums.rows)) c.self.invariant.0.distinct)
