use Rattle.std.proofs.Common.{◌≡◌}
use Rattle.std.specs.Prelude.{drop}
use Rattle.hx_model.specs.Modes.{mode_by}
use Rattle.hx_model.proofs.mode.mode_by.Given as goal

abbrev pub invariant-loop-entry : goal.invariant-loop-entry
invariant-loop-entry l = mode_by (drop l.entry-index l.entries) l.kind ≡ mode_by l.entries l.kind
