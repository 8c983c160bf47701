use Rattle.std.proofs.Common.{take}
use Rattle.hx_watch.specs.Watching.{HaveFollowed}
use Rattle.hx_ports.proofs.followed.publish_all.Given as goal

abbrev pub invariant-loop-event : goal.invariant-loop-event
invariant-loop-event g l = HaveFollowed (take l.event-index l.events) l.fn.hub l.hub
