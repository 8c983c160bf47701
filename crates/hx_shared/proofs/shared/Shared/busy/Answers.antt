use Rattle.std.proofs.Common.{ap}
use Rattle.hx_shared.specs.declared.call.Call.TheVariants as call
use Rattle.hx_shared.proofs.Seating.{under_busy, adds, legal_after}
use Rattle.hx_shared.proofs.shared.Shared.busy.Goals as goal

pub leave_busy-requires-clause-stands : goal.leave_busy-requires-clause-stands
leave_busy-requires-clause-stands g c =
    let s = c.enter-cluster.ensures.stands in
    (s.0, s.1, under_busy s.0 c.enter-cluster.result.cluster.value c.deref.result.now c.enter-cluster.new.pass.me.0.seen c.enter-cluster.new.pass.me.0.number c.busy-counts.result.0 c.busy-counts.result.1 s.2 c.deref.ensures c.busy-counts.ensures.simulates)

pub returns-clause-adds : goal.returns-clause-adds
returns-clause-adds g c = adds c.args.seat.now.me.0 c.enter-cluster.new.pass.me.0 c.leave_busy.new.seat.me.0 (call.Busy c.busy-counts.result.0 c.busy-counts.result.1) (ap (λ m. m.0) c.leave_busy.ensures.entry) c.enter-cluster.ensures.keeps

pub returns-clause-legal : goal.returns-clause-legal
returns-clause-legal g c =
    let s = c.enter-cluster.ensures.stands in
    legal_after s.0 _ c.enter-cluster.new.pass.me.0 c.leave_busy.new.seat.me.0 (call.Busy c.busy-counts.result.0 c.busy-counts.result.1) (ap (λ m. m.0) c.leave_busy.ensures.entry) s.1 (under_busy s.0 c.enter-cluster.result.cluster.value c.deref.result.now c.enter-cluster.new.pass.me.0.seen c.enter-cluster.new.pass.me.0.number c.busy-counts.result.0 c.busy-counts.result.1 s.2 c.deref.ensures c.busy-counts.ensures.simulates)
