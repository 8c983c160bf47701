use Rattle.std.proofs.Common.{rules, ◌≡◌, [], get_or}
use Rattle.hx_quota.specs.SumRows.{no_column}
use Rattle.hx_quota.proofs.sum_table.new_columns.Goals as goal

pub returns : goal.returns
returns c k within =
    let call = (c.from_fn.ensures.items.at k no_column within).2 in
    let empty : (get_or c.from_fn.result k no_column).sums ≡ [] = search rules in
    empty
