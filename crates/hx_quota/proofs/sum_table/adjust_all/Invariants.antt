use Rattle.std.specs.Prelude.{◌≡◌, ℕ, ◌+◌, ◌-◌, ◌<◌, ◌≤◌, false, length, slice_index, slice_set}
use Rattle.hx_quota.specs.SumRows.{column_at, flag_of}
use Rattle.hx_quota.proofs.sum_table.adjust_all.Given as goal

-- the columns and the flags before the place are done, and the others are as they were
abbrev pub invariant-loop-place : goal.invariant-loop-place
invariant-loop-place l = record {
  long : length l.columns ≡ 15;
  wide : length l.filled ≡ 15;
  done : (k : ℕ) → k < l.place → (column_at l.columns k).sums ≡ slice_set (column_at l.fn.columns k).sums l.at (slice_index (column_at l.fn.columns k).sums l.at - slice_index l.change.take k + slice_index l.change.give k);
  empty : (k : ℕ) → k < l.place → flag_of l.filled k ≡ false → slice_index (column_at l.fn.columns k).sums l.at - slice_index l.change.take k + slice_index l.change.give k ≡ 0;
  room : (k : ℕ) → k < l.place → (column_at l.fn.columns k).spare ≤ (column_at l.columns k).spare;
  left : (k : ℕ) → l.place ≤ k → column_at l.columns k ≡ column_at l.fn.columns k;
  as_was : (k : ℕ) → l.place ≤ k → flag_of l.filled k ≡ flag_of l.fn.filled k;
}
