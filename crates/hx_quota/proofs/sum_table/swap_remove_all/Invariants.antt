use Rattle.std.specs.Prelude.{◌≡◌, ℕ, ◌<◌, ◌≤◌, length}
use Rattle.std.specs.List.{swap_remove}
use Rattle.hx_quota.specs.SumRows.{column_at}
use Rattle.hx_quota.proofs.sum_table.swap_remove_all.Given as goal

-- the columns before the place are done, and the others are as they were
abbrev pub invariant-loop-place : goal.invariant-loop-place
invariant-loop-place l = record {
  long : length l.columns ≡ 15;
  done : (k : ℕ) → k < l.place → (column_at l.columns k).sums ≡ swap_remove (column_at l.fn.columns k).sums l.at 0;
  room : (k : ℕ) → k < l.place → (column_at l.fn.columns k).spare ≤ (column_at l.columns k).spare;
  left : (k : ℕ) → l.place ≤ k → column_at l.columns k ≡ column_at l.fn.columns k;
}
