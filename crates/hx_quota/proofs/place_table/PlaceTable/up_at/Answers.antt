use Rattle.std.proofs.Common.{◌<◌, length, List, ℕ, Option, slice_get, ap, sym, subst, ◌∙◌}
use Rattle.std.specs.Prelude.{option_and_then, IfSome}
use Rattle.std.specs.List.{IsDistinct}
use Rattle.std.specs.Str.{bytes_eq}
use Rattle.hx_quota.specs.PlaceRows.{linked}
use Rattle.hx_quota.proofs.Joined.{keys_joined, length_joined, parent_joined, up_joined}
use Rattle.hx_quota.proofs.Linked.{length_linked, name_linked, up_linked}
use Rattle.hx_quota.proofs.RingTable.{up_within}
use Rattle.hx_quota.proofs.place_table.PlaceTable.up_at.Goals as goal

pub returns-clause-up : goal.returns-clause-up
returns-clause-up c =
    let t = c.self.inside in
    let names = t.names.keys in
    let links = linked names names t.ups.items in
    rw (← c.self.view_is) (up_joined links t.own.items t.sums.rows names (name_linked names names t.ups.items) c.get.result ∙ ap (λ (o : Option ℕ). option_and_then (slice_get names) o) c.get.ensures
    ∙ sym (up_linked names names t.ups.items c.self.invariant.1.0 c.args.at) ∙ sym (parent_joined links t.own.items t.sums.rows c.args.at))

pub returns-clause-distinct : goal.returns-clause-distinct
returns-clause-distinct c =
    let t = c.self.inside in
    rw (← c.self.view_is) (subst (λ (ks : List (List ℕ)). IsDistinct bytes_eq ks) (sym (keys_joined (linked t.names.keys t.names.keys t.ups.items) t.own.items t.sums.rows)) c.self.invariant.0.distinct)

pub returns-clause-within : goal.returns-clause-within
returns-clause-within c =
    let t = c.self.inside in
    let names = t.names.keys in
    let links = linked names names t.ups.items in
    rw (← c.self.view_is) (subst (λ (k : ℕ). IfSome c.get.result (λ i. i < k)) (sym (length_joined links t.own.items t.sums.rows ∙ length_linked names names t.ups.items))
    (subst (λ (o : Option ℕ). IfSome o (λ i. i < length names)) (sym c.get.ensures) (up_within names t.ups.items c.self.invariant.1 c.args.at)))
