use Rattle.std.proofs.Common.{◌≡◌, ◌≤◌, take}
use Rattle.std.specs.Prelude.{count_by}
use Rattle.hx_model.specs.Limits.{is_copy}
use Rattle.hx_report.proofs.summing.copies_in.Given as goal

-- so many of those so far
abbrev pub invariant-loop-shared : goal.invariant-loop-shared
invariant-loop-shared l = record {
  counts : l.number ≡ count_by is_copy (take l.shared-index l.objects);
  fits : l.number ≤ l.shared-index;
}
