use Rattle.std.proofs.Common.{◌<◌, sym, arith}
use Rattle.std.proofs.lemmas.Option.{slice_get_past}
use Rattle.hx_quota.specs.SumRows.{height_of}
use Rattle.hx_quota.proofs.Rows.{is_there, whole_row}
use Rattle.hx_quota.proofs.sum_table.SumTable.row.Goals as goal

pub returns-then-at-len : goal.returns-then-at-len
returns-then-at-len c =
    let within : c.args.at < height_of c.self.inside.columns = is_there c.self.inside.columns c.args.at c.self.view_is (omega (arith, c.if-at-len.true, c.len.ensures.len)) in
    rw (← c.self.view_is) (whole_row c.self.inside.columns c.args.at c.row_of.result c.self.invariant.0 within c.row_of.ensures.long c.row_of.ensures.sums)

pub returns-else-at-len : goal.returns-else-at-len
returns-else-at-len c = sym (slice_get_past _ c.args.at (omega (arith, c.if-at-len.false, c.len.ensures.len)))
