use Rattle.std.proofs.Common.{sym, ◌∙◌}
use Rattle.hx_quota.specs.PlaceRows.{linked}
use Rattle.hx_quota.proofs.Joined.{name_joined}
use Rattle.hx_quota.proofs.Linked.{name_linked}
use Rattle.hx_quota.proofs.place_table.PlaceTable.name_at.Goals as goal

pub returns : goal.returns
returns c =
    let t = c.self.inside in
    let links = linked t.names.keys t.names.keys t.ups.items in
    rw (← c.self.view_is) (c.get_index.ensures.key ∙ sym (name_joined links t.own.items t.sums.rows c.args.at ∙ name_linked t.names.keys t.names.keys t.ups.items c.args.at))
