use Rattle.std.proofs.Common.{length, sym, ap, ◌∙◌, arith}
use Rattle.hx_quota.specs.SumRows.{ColumnView}
use Rattle.hx_quota.proofs.Rows.{column_read, long_rows, wide_rows}
use Rattle.hx_quota.proofs.sum_table.SumTable.len.Goals as goal

pub returns-clause-len : goal.returns-clause-len
returns-clause-len c = rw (← c.self.view_is) (c.len.ensures ∙ ap (λ (x : ColumnView). length x.sums) (column_read c.self.inside.columns 0 c.index-self-0.result c.self.invariant.0.all (omega arith)) ∙ sym (long_rows c.self.inside.columns))

pub returns-clause-long : goal.returns-clause-long
returns-clause-long c = rw (← c.self.view_is) (wide_rows c.self.inside.columns c.self.invariant.0.all)
