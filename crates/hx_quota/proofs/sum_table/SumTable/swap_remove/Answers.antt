use Rattle.std.proofs.Common.{◌<◌, sym, subst, arith}
use Rattle.hx_quota.specs.SumRows.{height_of, AreTold}
use Rattle.hx_quota.proofs.Rows.{is_there, room_as, removed_level, removed_rows, told_removed}
use Rattle.hx_quota.proofs.sum_table.SumTable.swap_remove.Goals as goal

pub swap_remove_all-requires : goal.swap_remove_all-requires
swap_remove_all-requires c k within =
    omega (arith, is_there c.self.inside.columns c.args.at c.self.view_is c.requires, c.self.invariant.0.level k within)

pub swap_remove-requires : goal.swap_remove-requires
swap_remove-requires c = omega (arith, is_there c.self.inside.columns c.args.at c.self.view_is c.requires, c.self.invariant.1.long)

pub invariant_of-self : goal.invariant_of-self
invariant_of-self c =
    let within : c.args.at < height_of c.self.inside.columns = is_there c.self.inside.columns c.args.at c.self.view_is c.requires in (
      removed_level c.self.inside.columns c.swap_remove_all.new.columns c.self.invariant.0 c.swap_remove_all.ensures.long c.args.at within c.swap_remove_all.ensures.sums,
      subst (AreTold c.swap_remove_all.new.columns) (sym c.swap_remove.ensures.flags) (told_removed c.self.inside.columns c.swap_remove_all.new.columns c.self.invariant.0 c.self.inside.filled.flags c.self.invariant.1 c.args.at within c.swap_remove_all.ensures.sums),
    )

pub returns-clause-rows : goal.returns-clause-rows
returns-clause-rows c =
    rw (← c.self.view_is) (removed_rows c.self.inside.columns c.swap_remove_all.new.columns c.self.invariant.0 c.swap_remove_all.ensures.long c.args.at (is_there c.self.inside.columns c.args.at c.self.view_is c.requires) c.swap_remove_all.ensures.sums)

pub returns-clause-room : goal.returns-clause-room
returns-clause-room c = rw (← c.self.view_is) (omega (arith, room_as c.self.inside.columns c.swap_remove_all.new.columns c.self.invariant.0.all c.swap_remove_all.ensures.long c.swap_remove_all.ensures.room, c.swap_remove.ensures.room))
