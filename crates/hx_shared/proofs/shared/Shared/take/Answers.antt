use Rattle.std.proofs.Common.{ap}
use Rattle.hx_shared.specs.declared.call.Call.TheVariants as call
use Rattle.hx_shared.proofs.Seating.{under_take, adds, legal_after}
use Rattle.hx_shared.proofs.shared.Shared.take.Goals as goal

pub leave_take-requires-clause-stands : goal.leave_take-requires-clause-stands
leave_take-requires-clause-stands g c =
    let s = c.enter-cluster.ensures.stands in
    (s.0, s.1, under_take s.0 c.enter-cluster.result.cluster.value c.deref_mut.result.now c.take-taken.new.self c.enter-cluster.new.pass.me.0.seen c.enter-cluster.new.pass.me.0.number c.args.worker c.take-taken.result s.2 c.deref_mut.ensures.value c.take-taken.ensures.simulates c.take-taken.ensures.hand)

pub returns-clause-adds : goal.returns-clause-adds
returns-clause-adds g c = adds c.args.seat.now.me.0 c.enter-cluster.new.pass.me.0 c.leave_take.new.seat.me.0 (call.Take c.args.worker c.take-taken.result) (ap (λ m. m.0) c.leave_take.ensures.entry) c.enter-cluster.ensures.keeps

pub returns-clause-legal : goal.returns-clause-legal
returns-clause-legal g c =
    let s = c.enter-cluster.ensures.stands in
    legal_after s.0 _ c.enter-cluster.new.pass.me.0 c.leave_take.new.seat.me.0 (call.Take c.args.worker c.take-taken.result) (ap (λ m. m.0) c.leave_take.ensures.entry) s.1 (under_take s.0 c.enter-cluster.result.cluster.value c.deref_mut.result.now c.take-taken.new.self c.enter-cluster.new.pass.me.0.seen c.enter-cluster.new.pass.me.0.number c.args.worker c.take-taken.result s.2 c.deref_mut.ensures.value c.take-taken.ensures.simulates c.take-taken.ensures.hand)
