use Rattle.std.proofs.Common.{sym, ◌∙◌}
use Rattle.hx_quota.specs.PlaceRows.{linked}
use Rattle.hx_quota.proofs.Joined.{sums_joined}
use Rattle.hx_quota.proofs.place_table.PlaceTable.sums_at.Goals as goal

pub returns : goal.returns
returns c =
    let t = c.self.inside in
    let links = linked t.names.keys t.names.keys t.ups.items in
    rw (← c.self.view_is) (c.row.ensures ∙ sym (sums_joined links t.own.items t.sums.rows c.self.invariant.0.whole c.args.at))
