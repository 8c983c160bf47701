use Rattle.std.proofs.Common.{◌≡◌, ◌≤◌, take}
use Rattle.std.specs.Prelude.{count_by}
use Rattle.hx_model.specs.Propagation.{is_source}
use Rattle.hx_report.proofs.summing.sources_in.Given as goal

-- so many of those so far
abbrev pub invariant-loop-shared : goal.invariant-loop-shared
invariant-loop-shared l = record {
  counts : l.number ≡ count_by is_source (take l.shared-index l.objects);
  fits : l.number ≤ l.shared-index;
}
