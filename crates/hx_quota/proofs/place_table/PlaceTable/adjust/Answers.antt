use Rattle.std.proofs.Common.{sym, ◌∙◌}
use Rattle.hx_quota.specs.PlaceRows.{linked}
use Rattle.hx_quota.proofs.Joined.{sums_joined, has_adjusted, none_adjusted}
use Rattle.hx_quota.proofs.place_table.PlaceTable.adjust.Goals as goal

pub adjust-requires : goal.adjust-requires
adjust-requires c = λ row is.
    let t = c.self.inside in
    let links = linked t.names.keys t.names.keys t.ups.items in
    c.requires row (rw (← c.self.view_is) (sym (sums_joined links t.own.items t.sums.rows c.self.invariant.0.whole c.args.at ∙ is)))

pub returns-clause-there : goal.returns-clause-there
returns-clause-there c = λ yes.
    let t = c.self.inside in
    let links = linked t.names.keys t.names.keys t.ups.items in
    rw (← c.self.view_is) (has_adjusted c.args.change.now.take c.args.change.now.give c.args.at links t.own.items t.sums.rows c.adjust.new.self.rows c.self.invariant.0 (c.adjust.ensures.there yes))

pub returns-clause-absent : goal.returns-clause-absent
returns-clause-absent c = λ no.
    let t = c.self.inside in
    let links = linked t.names.keys t.names.keys t.ups.items in
    rw (← c.self.view_is) (none_adjusted links t.own.items t.sums.rows c.args.at c.self.invariant.0.whole (c.adjust.ensures.absent no))
