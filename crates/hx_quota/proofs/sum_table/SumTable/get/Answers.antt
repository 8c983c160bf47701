use Rattle.std.specs.Prelude.{slice_index, slice_get}
use Rattle.std.proofs.Common.{◌≡◌, Some, None, ap, ◌∙◌}
use Rattle.hx_quota.specs.SumRows.{ColumnView, SumsView, rows_of}
use Rattle.hx_quota.proofs.Rows.{column_read, there_at, absent_at}
use Rattle.hx_quota.proofs.sum_table.SumTable.get.Goals as goal

pub returns-clause-there : goal.returns-clause-there
returns-clause-there c row there =
    let h : slice_get (rows_of c.self.inside.columns) c.args.at ≡ Some row = ap (λ (v : SumsView). slice_get v.rows c.args.at) c.self.view_is ∙ there in
    c.get.ensures ∙ ap (λ (x : ColumnView). slice_index x.sums c.args.at) (column_read c.self.inside.columns c.args.place c.index-self-place.result c.self.invariant.0.all c.requires) ∙ there_at c.self.inside.columns c.args.at c.args.place row c.self.invariant.0 h c.requires

pub returns-clause-absent : goal.returns-clause-absent
returns-clause-absent c none =
    let h : slice_get (rows_of c.self.inside.columns) c.args.at ≡ None = ap (λ (v : SumsView). slice_get v.rows c.args.at) c.self.view_is ∙ none in
    c.get.ensures ∙ ap (λ (x : ColumnView). slice_index x.sums c.args.at) (column_read c.self.inside.columns c.args.place c.index-self-place.result c.self.invariant.0.all c.requires) ∙ absent_at c.self.inside.columns c.args.at c.args.place c.self.invariant.0 h c.requires
