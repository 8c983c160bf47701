use Rattle.std.specs.Prelude.{◌≡◌, ℕ, ◌<◌, length, slice_index}
use Rattle.hx_quota.specs.SumRows.{column_at}
use Rattle.hx_quota.proofs.sum_table.row_of.Given as goal

-- the sums before the place are read
abbrev pub invariant-loop-place : goal.invariant-loop-place
invariant-loop-place l = record {
  long : length l.row ≡ 15;
  done : (k : ℕ) → k < l.place → slice_index l.row k ≡ slice_index (column_at l.columns k).sums l.at;
}
