use Rattle.std.proofs.Common.{ap, subst}
use Rattle.hx_shared.specs.declared.call.Call.TheVariants as call
use Rattle.hx_shared.specs.Seats.{Adds}
use Rattle.hx_shared.proofs.Seating.{under_request, adds, legal_after}
use Rattle.hx_shared.proofs.shared.Shared.request.Goals as goal

pub leave_request-requires-clause-stands : goal.leave_request-requires-clause-stands
leave_request-requires-clause-stands g c =
    let s = c.enter-cluster.ensures.stands in
    (s.0, s.1, under_request s.0 c.enter-cluster.result.cluster.value c.deref_mut.result.now c.request-answer.new.self c.enter-cluster.new.pass.me.0.seen c.enter-cluster.new.pass.me.0.number c.args.ask c.of-asked.result.value c.request-answer.result s.2 c.deref_mut.ensures.value c.of-asked.ensures c.request-answer.ensures.simulates)

pub returns-clause-adds : goal.returns-clause-adds
returns-clause-adds g c =
    subst (λ a. Adds c.args.seat.now.me.0 (call.Request a c.request-answer.result) c.leave_request.new.seat.me.0) c.of-asked.ensures
    (adds c.args.seat.now.me.0 c.enter-cluster.new.pass.me.0 c.leave_request.new.seat.me.0 (call.Request c.of-asked.result.value c.request-answer.result) (ap (λ m. m.0) c.leave_request.ensures.entry) c.enter-cluster.ensures.keeps)

pub returns-clause-legal : goal.returns-clause-legal
returns-clause-legal g c =
    let s = c.enter-cluster.ensures.stands in
    legal_after s.0 _ c.enter-cluster.new.pass.me.0 c.leave_request.new.seat.me.0 (call.Request c.of-asked.result.value c.request-answer.result) (ap (λ m. m.0) c.leave_request.ensures.entry) s.1 (under_request s.0 c.enter-cluster.result.cluster.value c.deref_mut.result.now c.request-answer.new.self c.enter-cluster.new.pass.me.0.seen c.enter-cluster.new.pass.me.0.number c.args.ask c.of-asked.result.value c.request-answer.result s.2 c.deref_mut.ensures.value c.of-asked.ensures c.request-answer.ensures.simulates)
