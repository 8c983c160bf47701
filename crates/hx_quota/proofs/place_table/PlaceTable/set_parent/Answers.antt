use Rattle.std.proofs.Common.{◌≡◌, ◌<◌, Option, List, ℕ, length, sym, subst, ◌∙◌, ap}
use Rattle.std.specs.Prelude.{IfSome, option_and_then, slice_get}
use Rattle.std.specs.List.{IsDistinct}
use Rattle.std.specs.Str.{bytes_eq}
use Rattle.indexmap.specs.IndexMap.{set_value_at}
use Rattle.hx_quota.specs.PlaceRows.{Links, PlacesView, Ups, linked, joined, IsTable, AreUps}
use Rattle.hx_quota.specs.Anew.{with_parent_at}
use Rattle.hx_quota.proofs.Joined.{keys_joined, length_joined, joined_link, table_linked, up_joined}
use Rattle.hx_quota.proofs.Linked.{length_linked, name_linked, linked_set, ups_set}
use Rattle.hx_quota.proofs.place_table.PlaceTable.set_parent.Goals as goal

-- the links are then those before, with another parent
links_then : (c : goal.After-set) → linked c.self.inside.names.keys c.self.inside.names.keys c.set.new.self.items
    ≡ set_value_at (linked c.self.inside.names.keys c.self.inside.names.keys c.self.inside.ups.items) c.args.at (option_and_then (slice_get c.self.inside.names.keys) c.args.up)
links_then c =
    let t = c.self.inside in
    ap (linked t.names.keys t.names.keys) c.set.ensures.items ∙ linked_set t.names.keys t.names.keys t.ups.items c.self.invariant.1.0 c.args.at c.args.up

pub set-requires : goal.set-requires
set-requires c =
    let t = c.self.inside in
    let names = t.names.keys in
    let links = linked names names t.ups.items in
    subst (λ (k : ℕ). IfSome c.args.up (λ i. i < k)) (length_joined links t.own.items t.sums.rows ∙ length_linked names names t.ups.items ∙ sym c.self.invariant.1.0)
    (subst (λ (v : PlacesView). IfSome c.args.up (λ i. i < length v.entries)) (sym c.self.view_is) c.requires)

pub invariant_of-self : goal.invariant_of-self
invariant_of-self c =
    let t = c.self.inside in
    let names = t.names.keys in
    let links = linked names names t.ups.items in
    let within : IfSome c.args.up (λ i. i < length names) =
    subst (λ (k : ℕ). IfSome c.args.up (λ i. i < k)) (length_joined links t.own.items t.sums.rows ∙ length_linked names names t.ups.items) (subst (λ (v : PlacesView). IfSome c.args.up (λ i. i < length v.entries)) (sym c.self.view_is) c.requires) in (
      subst (λ (new : Links). IsTable new t.own.items t.sums.rows) (sym (links_then c)) (table_linked links t.own.items t.sums.rows c.args.at (option_and_then (slice_get names) c.args.up) c.self.invariant.0),
      subst (λ (ups : Ups). AreUps names ups) (sym c.set.ensures.items) (ups_set names t.ups.items c.args.at c.args.up within c.self.invariant.1),
      c.self.invariant.2,
    )

pub returns-clause-entries : goal.returns-clause-entries
returns-clause-entries c =
    let t = c.self.inside in
    let names = t.names.keys in
    let links = linked names names t.ups.items in
    rw (← c.self.view_is) (ap (λ (new : Links). joined new t.own.items t.sums.rows) (links_then c) ∙ joined_link links t.own.items t.sums.rows c.args.at (option_and_then (slice_get names) c.args.up)
    ∙ ap (λ (o : Option (List ℕ)). with_parent_at c.args.at o (joined links t.own.items t.sums.rows)) (sym (up_joined links t.own.items t.sums.rows names (name_linked names names t.ups.items) c.args.up)))

pub returns-clause-distinct : goal.returns-clause-distinct
returns-clause-distinct c =
    let t = c.self.inside in
    rw (← c.self.view_is) (subst (λ (ks : List (List ℕ)). IsDistinct bytes_eq ks) (sym (keys_joined (linked t.names.keys t.names.keys t.ups.items) t.own.items t.sums.rows)) c.self.invariant.0.distinct)
