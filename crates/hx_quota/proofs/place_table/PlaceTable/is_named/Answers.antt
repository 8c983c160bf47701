use Rattle.std.proofs.Common.{rules, ◌≡◌, ◌<◌, List, ℕ, Some, option_copied, slice_get, ap, sym, subst, ◌∙◌}
use Rattle.std.specs.List.{IsDistinct}
use Rattle.std.specs.Str.{bytes_eq}
use Rattle.std.proofs.lemmas.Option.{slice_get_within}
use Rattle.hx_model.proofs.Climbing.{is_same}
use Rattle.hx_quota.specs.PlaceRows.{linked, placed}
use Rattle.hx_quota.proofs.Formed.{named_place}
use Rattle.hx_quota.proofs.Joined.{keys_joined, length_joined, name_joined}
use Rattle.hx_quota.proofs.Linked.{length_linked, name_linked}
use Rattle.hx_quota.proofs.place_table.PlaceTable.is_named.Goals as goal

pub returns-in-Some-clause-within : goal.returns-in-Some-clause-within
returns-in-Some-clause-within c = λ yes.
    let t = c.self.inside in
    let same : c.eq.result ≡ bytes_eq c.in-Some.found.now c.args.name.now = search rules in
    let here : slice_get t.names.keys c.args.at ≡ Some c.args.name.now =
    sym c.get_index.ensures.key ∙ ap option_copied c.in-Some.is ∙ ap Some (is_same c.in-Some.found.now c.args.name.now (sym same ∙ yes)) in
    let links = linked t.names.keys t.names.keys t.ups.items in
    let count = length_joined links t.own.items t.sums.rows ∙ length_linked t.names.keys t.names.keys t.ups.items in
    rw (← c.self.view_is) (subst (λ (k : ℕ). c.args.at < k) (sym count) (slice_get_within t.names.keys c.args.at c.args.name.now here))

pub returns-in-Some-clause-place : goal.returns-in-Some-clause-place
returns-in-Some-clause-place c = λ yes.
    let t = c.self.inside in
    let same : c.eq.result ≡ bytes_eq c.in-Some.found.now c.args.name.now = search rules in
    let here : slice_get t.names.keys c.args.at ≡ Some c.args.name.now =
    sym c.get_index.ensures.key ∙ ap option_copied c.in-Some.is ∙ ap Some (is_same c.in-Some.found.now c.args.name.now (sym same ∙ yes)) in
    let links = linked t.names.keys t.names.keys t.ups.items in
    let distinct = subst (λ (ks : List (List ℕ)). IsDistinct bytes_eq ks) (sym (keys_joined links t.own.items t.sums.rows)) c.self.invariant.0.distinct in
    rw (← c.self.view_is) (named_place (placed t.names.keys t.ups.items t.own.items t.sums.rows) c.args.at c.args.name.now distinct
    (name_joined links t.own.items t.sums.rows c.args.at ∙ name_linked t.names.keys t.names.keys t.ups.items c.args.at ∙ here))
