use Rattle.std.proofs.Common.{subst, ◌≡◌, List, ℕ, Option, option_map, slice_get, ap, sym, ◌∙◌}
use Rattle.std.specs.List.{IsDistinct}
use Rattle.std.specs.Str.{bytes_eq}
use Rattle.hx_quota.specs.PlaceRows.{Place, linked}
use Rattle.hx_quota.proofs.Joined.{keys_joined, sums_joined}
use Rattle.hx_quota.proofs.place_table.PlaceTable.sum_at.Goals as goal

pub returns-clause-sum : goal.returns-clause-sum
returns-clause-sum c = λ n p is.
    let t = c.self.inside in
    let links = linked t.names.keys t.names.keys t.ups.items in
    let whole : option_map (λ (e : List ℕ × Place). e.1.sums) (slice_get c.args.self.now.entries c.args.at) ≡ slice_get t.sums.rows c.args.at =
    rw (← c.self.view_is) (sums_joined links t.own.items t.sums.rows c.self.invariant.0.whole c.args.at) in
    c.get.ensures.there p.sums (sym whole ∙ ap (λ (o : Option (List ℕ × Place)). option_map (λ e. e.1.sums) o) is)

pub returns-clause-distinct : goal.returns-clause-distinct
returns-clause-distinct c =
    let t = c.self.inside in
    rw (← c.self.view_is) (subst (λ (ks : List (List ℕ)). IsDistinct bytes_eq ks) (sym (keys_joined (linked t.names.keys t.names.keys t.ups.items) t.own.items t.sums.rows)) c.self.invariant.0.distinct)
