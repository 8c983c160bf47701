use Rattle.std.proofs.Common.{List, ℕ, sym, subst, ◌∙◌}
use Rattle.std.specs.List.{IsDistinct}
use Rattle.std.specs.Str.{bytes_eq}
use Rattle.hx_quota.specs.PlaceRows.{linked}
use Rattle.hx_quota.proofs.Joined.{keys_joined, length_joined}
use Rattle.hx_quota.proofs.Linked.{length_linked}
use Rattle.hx_quota.proofs.place_table.PlaceTable.len.Goals as goal

pub returns-clause-len : goal.returns-clause-len
returns-clause-len c =
    let t = c.self.inside in
    let links = linked t.names.keys t.names.keys t.ups.items in
    rw (← c.self.view_is) (c.len.ensures.len ∙ sym (length_joined links t.own.items t.sums.rows ∙ length_linked t.names.keys t.names.keys t.ups.items))

pub returns-clause-distinct : goal.returns-clause-distinct
returns-clause-distinct c =
    let t = c.self.inside in
    let links = linked t.names.keys t.names.keys t.ups.items in
    rw (← c.self.view_is) (subst (λ (ks : List (List ℕ)). IsDistinct bytes_eq ks) (sym (keys_joined links t.own.items t.sums.rows)) c.self.invariant.0.distinct)
