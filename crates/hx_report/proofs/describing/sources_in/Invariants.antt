use Rattle.std.proofs.Common.{◌≡◌, ◌≤◌, take}
use Rattle.hx_model.specs.Propagation.{is_source}
use Rattle.hx_report.specs.Describing.{number_in}
use Rattle.hx_report.proofs.describing.sources_in.Given as goal

-- so many of those so far
abbrev pub invariant-loop-shared : goal.invariant-loop-shared
invariant-loop-shared l = record {
  counts : l.number ≡ number_in is_source (take l.shared-index l.objects) l.ns;
  fits : l.number ≤ l.shared-index;
}
