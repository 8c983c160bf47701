use Rattle.std.proofs.Common.{◌≤◌, arith}
use Rattle.std.proofs.lemmas.Result.{on_ok_weaker}
use Rattle.hx_quota.specs.SumRows.{least_room}
use Rattle.hx_quota.proofs.Rows.{room_all, room_as, rows_as}
use Rattle.hx_quota.proofs.sum_table.SumTable.reserve.Goals as goal

pub returns-in_err-reserve_all-clause-rows : goal.returns-in_err-reserve_all-clause-rows
returns-in_err-reserve_all-clause-rows c = rw (← c.self.view_is) (rows_as c.self.inside.columns c.reserve_all.new.columns c.self.invariant.0 c.reserve_all.ensures.long c.reserve_all.ensures.sums)

pub returns-in_err-reserve_all-clause-stays : goal.returns-in_err-reserve_all-clause-stays
returns-in_err-reserve_all-clause-stays c = rw (← c.self.view_is) (omega (arith, room_as c.self.inside.columns c.reserve_all.new.columns c.self.invariant.0.all c.reserve_all.ensures.long c.reserve_all.ensures.stays))

pub returns-clause-rows : goal.returns-clause-rows
returns-clause-rows c = rw (← c.self.view_is) (rows_as c.self.inside.columns c.reserve_all.new.columns c.self.invariant.0 c.reserve_all.ensures.long c.reserve_all.ensures.sums)

pub returns-clause-room : goal.returns-clause-room
returns-clause-room c =
    let columns : c.args.more ≤ least_room c.reserve_all.new.columns = room_all c.reserve_all.new.columns c.args.more c.reserve_all.ensures.long c.in_ok-reserve_all.ensures.room in
    on_ok_weaker c.reserve.result (λ filled. omega (arith, columns, filled)) c.reserve.ensures.room

pub returns-clause-stays : goal.returns-clause-stays
returns-clause-stays c = rw (← c.self.view_is) (omega (arith, room_as c.self.inside.columns c.reserve_all.new.columns c.self.invariant.0.all c.reserve_all.ensures.long c.reserve_all.ensures.stays, c.reserve.ensures.stays))
