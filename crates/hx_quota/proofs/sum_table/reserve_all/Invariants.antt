use Rattle.std.specs.Prelude.{◌≡◌, ℕ, ◌<◌, ◌≤◌, length}
use Rattle.hx_quota.specs.SumRows.{column_at}
use Rattle.hx_quota.proofs.sum_table.reserve_all.Given as goal

-- the columns before the place are done, and the others are as they were
abbrev pub invariant-loop-place : goal.invariant-loop-place
invariant-loop-place l = record {
  long : length l.columns ≡ 15;
  sums : (k : ℕ) → (column_at l.columns k).sums ≡ (column_at l.fn.columns k).sums;
  room : (k : ℕ) → k < l.place → l.more ≤ (column_at l.columns k).spare;
  stays : (k : ℕ) → (column_at l.fn.columns k).spare ≤ (column_at l.columns k).spare;
}
