use Rattle.std.proofs.Common.{List, ℕ, ap, sym, subst, ◌∙◌, ◌<◌}
use Rattle.std.specs.Prelude.{position, IfSome}
use Rattle.std.specs.List.{IsDistinct}
use Rattle.std.specs.Str.{bytes_eq}
use Rattle.hx_quota.specs.PlaceRows.{linked, placed}
use Rattle.hx_quota.proofs.Joined.{keys_joined, length_joined, found_keys, found_at}
use Rattle.hx_quota.proofs.Linked.{keys_linked, length_linked}
use Rattle.hx_quota.proofs.place_table.PlaceTable.index_of.Goals as goal

pub returns-clause-within : goal.returns-clause-within
returns-clause-within c =
    let t = c.self.inside in
    let links = linked t.names.keys t.names.keys t.ups.items in
    rw (← c.self.view_is) (subst (λ (k : ℕ). IfSome c.get_index_of.result (λ i. i < k)) (sym (length_joined links t.own.items t.sums.rows ∙ length_linked t.names.keys t.names.keys t.ups.items)) c.get_index_of.ensures.within)

pub returns-clause-place : goal.returns-clause-place
returns-clause-place c =
    let t = c.self.inside in
    let name = c.args.name.now in
    let links = linked t.names.keys t.names.keys t.ups.items in
    let names = keys_linked t.names.keys t.names.keys t.ups.items in
    let keys = keys_joined links t.own.items t.sums.rows in
    let count = length_joined links t.own.items t.sums.rows ∙ length_linked t.names.keys t.names.keys t.ups.items in
    rw (← c.self.view_is) (found_at (placed t.names.keys t.ups.items t.own.items t.sums.rows) name c.get_index_of.result (subst (λ (ks : List (List ℕ)). IsDistinct bytes_eq ks) (sym keys) c.self.invariant.0.distinct)
    (c.get_index_of.ensures.index ∙ ap (position (bytes_eq name)) (sym (keys ∙ names))) (c.get_index_of.ensures.found ∙ sym (found_keys links t.own.items t.sums.rows t.names.keys names name))
    (subst (λ (k : ℕ). IfSome c.get_index_of.result (λ i. i < k)) (sym count) c.get_index_of.ensures.within))
