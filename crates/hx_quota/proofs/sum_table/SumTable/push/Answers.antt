use Rattle.std.proofs.Common.{◌≤◌, min, sym, subst, arith}
use Rattle.hx_quota.specs.SumRows.{SumsView, least_room, AreTold}
use Rattle.hx_quota.proofs.Rows.{room_each, room_after, pushed_level, pushed_rows, told_pushed}
use Rattle.hx_quota.proofs.sum_table.SumTable.push.Goals as goal

pub push_all-requires : goal.push_all-requires
push_all-requires c k within =
    let room : 1 ≤ min (least_room c.self.inside.columns) c.self.inside.filled.spare = subst (λ (v : SumsView). 1 ≤ v.spare) (sym c.self.view_is) c.requires in
    omega (arith, room, room_each c.self.inside.columns k (omega (arith, within, c.self.invariant.0.all)))

pub push-requires : goal.push-requires
push-requires c =
    let room : 1 ≤ min (least_room c.self.inside.columns) c.self.inside.filled.spare = subst (λ (v : SumsView). 1 ≤ v.spare) (sym c.self.view_is) c.requires in
    omega (arith, room)

pub invariant_of-self : goal.invariant_of-self
invariant_of-self c = (
  pushed_level c.self.inside.columns c.push_all.new.columns c.self.invariant.0 c.push_all.ensures.long c.push_all.ensures.sums,
  subst (AreTold c.push_all.new.columns) (sym c.push.ensures.flags) (told_pushed c.self.inside.columns c.push_all.new.columns c.self.invariant.0 c.self.inside.filled.flags c.self.invariant.1 c.push_all.ensures.sums),
)

pub returns-clause-rows : goal.returns-clause-rows
returns-clause-rows c = rw (← c.self.view_is) (pushed_rows c.self.inside.columns c.push_all.new.columns c.self.invariant.0 c.push_all.ensures.long c.push_all.ensures.sums)

pub returns-clause-room : goal.returns-clause-room
returns-clause-room c = rw (← c.self.view_is) (omega (arith, room_after 1 c.self.inside.columns c.push_all.new.columns c.self.invariant.0.all c.push_all.ensures.long c.push_all.ensures.room, c.push.ensures.room))
