use Rattle.std.proofs.Common.{◌≡◌, ◌≤◌, take}
use Rattle.hx_model.specs.Limits.{is_copy}
use Rattle.hx_report.specs.Describing.{number_in}
use Rattle.hx_report.proofs.describing.copies_in.Given as goal

-- so many of those so far
abbrev pub invariant-loop-shared : goal.invariant-loop-shared
invariant-loop-shared l = record {
  counts : l.number ≡ number_in is_copy (take l.shared-index l.objects) l.ns;
  fits : l.number ≤ l.shared-index;
}
