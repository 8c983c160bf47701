use Rattle.std.proofs.Common.{◌≡◌}
use Rattle.std.specs.Prelude.{take}
use Rattle.hx_core.proofs.rows.share_all.Given as goal

-- the first events are shared
abbrev pub invariant-loop-event : goal.invariant-loop-event
invariant-loop-event l = l.shared.items ≡ take l.event-index l.events
