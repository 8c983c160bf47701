use Rattle.std.proofs.Common.{ap}
use Rattle.hx_shared.specs.declared.call.Call.TheVariants as call
use Rattle.hx_shared.proofs.Seating.{under_finish, under_plan, adds, legal_after}
use Rattle.hx_shared.proofs.shared.Shared.finish.Goals as goal

pub leave_finish-requires-clause-stands : goal.leave_finish-requires-clause-stands
leave_finish-requires-clause-stands g c =
    let s = c.enter-cluster.ensures.stands in
    (s.0, s.1, (under_finish s.0 c.enter-cluster.result.cluster.value c.deref_mut.result.now c.finish-end.new.self c.args.seat.now.me.0 c.enter-cluster.new.pass.me.0 c.args.worker c.finish-end.result c.args.plan.brief s.2 c.enter-cluster.ensures.mine c.enter-cluster.ensures.keeps c.requires.taken c.deref_mut.ensures.value c.finish-end.ensures.simulates c.finish-end.ensures.empty).0)

pub returns-clause-adds : goal.returns-clause-adds
returns-clause-adds g c = adds c.args.seat.now.me.0 c.enter-cluster.new.pass.me.0 c.leave_finish.new.seat.me.0 (call.Finish c.args.worker c.finish-end.result) (ap (λ m. m.0) c.leave_finish.ensures.entry) c.enter-cluster.ensures.keeps

pub returns-clause-legal : goal.returns-clause-legal
returns-clause-legal g c =
    let s = c.enter-cluster.ensures.stands in
    legal_after s.0 _ c.enter-cluster.new.pass.me.0 c.leave_finish.new.seat.me.0 (call.Finish c.args.worker c.finish-end.result) (ap (λ m. m.0) c.leave_finish.ensures.entry) s.1 ((under_finish s.0 c.enter-cluster.result.cluster.value c.deref_mut.result.now c.finish-end.new.self c.args.seat.now.me.0 c.enter-cluster.new.pass.me.0 c.args.worker c.finish-end.result c.args.plan.brief s.2 c.enter-cluster.ensures.mine c.enter-cluster.ensures.keeps c.requires.taken c.deref_mut.ensures.value c.finish-end.ensures.simulates c.finish-end.ensures.empty).0)

pub returns-clause-held : goal.returns-clause-held
returns-clause-held g c =
    let s = c.enter-cluster.ensures.stands in
    (under_finish s.0 c.enter-cluster.result.cluster.value c.deref_mut.result.now c.finish-end.new.self c.args.seat.now.me.0 c.enter-cluster.new.pass.me.0 c.args.worker c.finish-end.result c.args.plan.brief s.2 c.enter-cluster.ensures.mine c.enter-cluster.ensures.keeps c.requires.taken c.deref_mut.ensures.value c.finish-end.ensures.simulates c.finish-end.ensures.empty).1

pub finish-end-requires : goal.finish-end-requires
finish-end-requires g c =
    let s = c.enter-cluster.ensures.stands in
    under_plan s.0 c.enter-cluster.result.cluster.value c.deref_mut.result.now c.args.seat.now.me.0 c.enter-cluster.new.pass.me.0 c.args.worker c.args.plan.brief s.2 c.enter-cluster.ensures.mine c.enter-cluster.ensures.keeps c.requires.taken c.deref_mut.ensures.value
