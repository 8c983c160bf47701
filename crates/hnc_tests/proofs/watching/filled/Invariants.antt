use Rattle.std.proofs.Common.{◌≤◌, ◌+◌, ◌/◌}
use Rattle.hx_model.specs.Windows.{newest}
use Rattle.hnc_tests.proofs.watching.filled.Given as goal

-- the event to come is no older than the newest
abbrev pub invariant-loop-n : goal.invariant-loop-n
invariant-loop-n l = newest l.window ≤ l.n / 2 + 1
