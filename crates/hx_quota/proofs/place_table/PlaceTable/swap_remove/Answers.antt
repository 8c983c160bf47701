use Rattle.std.proofs.Common.{rules, false, ◌≡◌, ◌<◌, ◌-◌, ℕ, List, Option, Some, None, [], length, map, ap, sym, subst, ◌∙◌, arith}
use Rattle.std.specs.Prelude.{position, swap_remove, vec_len, IfSome}
use Rattle.std.specs.Str.{bytes_eq}
use Rattle.hx_quota.specs.PlaceRows.{Place, PlacesView, Names, Rows, Ups, linked, placed, place_at, ring_in, relinked, IsTable, AreUps}
use Rattle.hx_quota.proofs.Indexed.{index_found}
use Rattle.hx_quota.proofs.Joined.{place_absent}
use Rattle.hx_quota.proofs.Linked.{keys_linked, length_linked, ups_out, table_left, places_left}
use Rattle.hx_quota.proofs.RingTable.{ring_table, ring_absent, rings_left, rings_out}
use Rattle.hx_quota.proofs.place_table.PlaceTable.swap_remove.Goals as goal

pub returns-in_default-clause-places : goal.returns-in_default-clause-places
returns-in_default-clause-places c =
    let t = c.self.inside in
    let links = linked t.names.keys t.names.keys t.ups.items in
    rw (← c.self.view_is)
    (place_absent links t.own.items t.sums.rows c.self.invariant.0 c.args.name.now (sym c.in_default.is ∙ c.get_index_of.ensures.index ∙ ap (position (bytes_eq c.args.name.now)) (sym (keys_linked t.names.keys t.names.keys t.ups.items))))

pub swap_remove-requires : goal.swap_remove-requires
swap_remove-requires c =
    let within : c.in-Some.at < length c.self.inside.names.keys = search rules in
    let level = c.self.invariant.1.0 in
    omega (arith, within, level)

pub swap_remove-own-requires : goal.swap_remove-own-requires
swap_remove-own-requires c =
    let t = c.self.inside in
    let within : c.in-Some.at < length t.names.keys = search rules in
    let level = c.self.invariant.0.own in
    let links = length_linked t.names.keys t.names.keys t.ups.items in
    let long : vec_len t.own ≡ length t.own.items = t.own.ok.0 in
    omega (arith, within, level, links, long)

pub swap_remove-requires-3 : goal.swap_remove-requires-3
swap_remove-requires-3 c =
    let within : c.in-Some.at < length c.self.inside.names.keys = search rules in
    let level = c.self.invariant.2.0 in
    omega (arith, within, level)

pub swap_remove-requires-2 : goal.swap_remove-requires-2
swap_remove-requires-2 c =
    let t = c.self.inside in
    let within : c.in-Some.at < length t.names.keys = search rules in
    let level = c.self.invariant.0.whole in
    let links = length_linked t.names.keys t.names.keys t.ups.items in
    omega (arith, within, level, links)

lies : (c : goal.Joined-name) → c.in-Some.at < length c.self.inside.names.keys
lies c = search rules

index : (c : goal.Joined-name) → Some c.in-Some.at ≡ position (bytes_eq c.args.name.now) c.self.inside.names.keys
index c = sym c.in-Some.is ∙ c.get_index_of.ensures.index

-- the names that are left
named : (c : goal.Joined-name) → c.swap_remove_index-name.new.self.keys ≡ swap_remove c.self.inside.names.keys c.in-Some.at c.args.name.now
named c =
    let names = c.self.inside.names.keys in
    let at = c.in-Some.at in
    let found : c.swap_remove_index-name.result ≡ Some c.args.name.now = c.swap_remove_index-name.ensures.key ∙ index_found c.args.name.now names at (sym (index c)) (lies c) in
    subst (λ (o : Option (List ℕ)). IfSome o (λ k. c.swap_remove_index-name.new.self.keys ≡ swap_remove names at k)) found c.swap_remove_index-name.ensures.keys

-- and the indices of their parents
noted : (c : goal.Joined-name) → c.swap_remove.new.self.items ≡ map (relinked (length c.self.inside.names.keys - 1) c.in-Some.at) (swap_remove c.self.inside.ups.items c.in-Some.at None)
noted c = c.swap_remove.ensures.items ∙ ap (λ (k : ℕ). map (relinked (k - 1) c.in-Some.at) (swap_remove c.self.inside.ups.items c.in-Some.at None)) c.self.invariant.1.0

-- no other one has it as its parent
childless : (c : goal.Joined-name) (m : List ℕ) (p : Place) → bytes_eq c.args.name.now m ≡ false → place_at (placed c.self.inside.names.keys c.self.inside.ups.items c.self.inside.own.items c.self.inside.sums.rows) m ≡ Some p → p.entry.parent ≡ Some c.args.name.now → ⊥
childless c = subst (λ (v : PlacesView). (m : List ℕ) (p : Place) → bytes_eq c.args.name.now m ≡ false → place_at v.entries m ≡ Some p → p.entry.parent ≡ Some c.args.name.now → ⊥) (sym c.self.view_is) c.requires.childless

-- and of those of rings
ring_noted : (c : goal.Joined-name) → c.swap_remove-3.new.self.items ≡ map (relinked (length c.self.inside.names.keys - 1) c.in-Some.at) (swap_remove c.self.inside.rings.items c.in-Some.at None)
ring_noted c = c.swap_remove-3.ensures.items ∙ ap (λ (k : ℕ). map (relinked (k - 1) c.in-Some.at) (swap_remove c.self.inside.rings.items c.in-Some.at None)) c.self.invariant.2.0

-- no other one's link leads to it
without : (c : goal.Joined-name) (m : List ℕ) → bytes_eq c.args.name.now m ≡ false → ring_in (linked c.self.inside.names.keys c.self.inside.names.keys c.self.inside.rings.items) m ≡ Some c.args.name.now → ⊥
without c = subst (λ (v : PlacesView). (m : List ℕ) → bytes_eq c.args.name.now m ≡ false → ring_in v.rings m ≡ Some c.args.name.now → ⊥) (sym c.self.view_is) c.requires.ringless

-- names with links that close rings are a table
table : (c : goal.Joined-name) → IsTable (linked c.self.inside.names.keys c.self.inside.names.keys c.self.inside.rings.items) c.self.inside.own.items c.self.inside.sums.rows
table c =
    let t = c.self.inside in
    ring_table t.names.keys t.ups.items t.rings.items t.own.items t.sums.rows c.self.invariant.0

pub invariant_of-self : goal.invariant_of-self
invariant_of-self c =
    let t = c.self.inside in
    let names = t.names.keys in
    let ups = t.ups.items in
    let owns = t.own.items in
    let sums = t.sums.rows in
    let at = c.in-Some.at in
    let name = c.args.name.now in
    let is = c.self.invariant.0 in
    let are = c.self.invariant.1 in
    let left = map (relinked (length names - 1) at) (swap_remove ups at None) in (
      subst (λ (ns : Names). IsTable (linked ns ns c.swap_remove.new.self.items) c.swap_remove-own.new.self.items c.swap_remove-2.new.self.rows) (sym (named c))
          (subst (λ (us : Ups). IsTable (linked (swap_remove names at name) (swap_remove names at name) us) c.swap_remove-own.new.self.items c.swap_remove-2.new.self.rows) (sym (noted c))
          (subst (λ (rows : Rows). IsTable (linked (swap_remove names at name) (swap_remove names at name) left) c.swap_remove-own.new.self.items rows) (sym c.swap_remove-2.ensures.rows)
          (subst (λ (rows : Rows). IsTable (linked (swap_remove names at name) (swap_remove names at name) left) rows (swap_remove sums at [])) (sym c.swap_remove-own.ensures.items)
          (table_left names ups owns sums is are at name (lies c) (index c) None (childless c) c.swap_remove-own.result [])))),
      subst (λ (ns : Names). AreUps ns c.swap_remove.new.self.items) (sym (named c)) (subst (λ (us : Ups). AreUps (swap_remove names at name) us) (sym (noted c)) (ups_out names ups owns sums is are at name (lies c) (index c) None (childless c))),
      subst (λ (ns : Names). AreUps ns c.swap_remove-3.new.self.items) (sym (named c))
          (subst (λ (us : Ups). AreUps (swap_remove names at name) us) (sym (ring_noted c)) (rings_out names t.rings.items owns sums (table c) name c.self.invariant.2 at (lies c) (index c) (without c))),
    )

pub returns-clause-places : goal.returns-clause-places
returns-clause-places c =
    let t = c.self.inside in
    let at = c.in-Some.at in
    let names = named c in
    let ups = noted c in
    let own = c.swap_remove-own.ensures.items in
    let whole = c.swap_remove-2.ensures.rows in
    rw (← c.self.view_is) (λ q. (λ i. place_at (placed (names i) (ups i) (own i) (whole i)) q)
    ∙ places_left t.names.keys t.ups.items t.own.items t.sums.rows c.self.invariant.0 c.self.invariant.1 at c.args.name.now (lies c) (index c) None (childless c) c.swap_remove-own.result [] q)

pub returns-in_default-clause-rings : goal.returns-in_default-clause-rings
returns-in_default-clause-rings c =
    let t = c.self.inside in
    rw (← c.self.view_is)
    (ring_absent t.names.keys t.rings.items t.own.items t.sums.rows (ring_table t.names.keys t.ups.items t.rings.items t.own.items t.sums.rows c.self.invariant.0) c.args.name.now
    (sym c.in_default.is ∙ c.get_index_of.ensures.index ∙ ap (position (bytes_eq c.args.name.now)) (sym (keys_linked t.names.keys t.names.keys t.rings.items))))

pub returns-clause-rings : goal.returns-clause-rings
returns-clause-rings c =
    let t = c.self.inside in
    let names = named c in
    let rings = ring_noted c in
    rw (← c.self.view_is) (λ q. (λ i. ring_in (linked (names i) (names i) (rings i)) q)
    ∙ rings_left t.names.keys t.rings.items t.own.items t.sums.rows (table c) c.args.name.now c.self.invariant.2 c.in-Some.at (lies c) (index c) (without c) q)
