use Rattle.std.proofs.Common.{ap, refl, option_map}
use Rattle.hx_reconcile.specs.declared.brief.Brief.{Brief}
use Rattle.hx_shared.specs.declared.call.Call.TheVariants as call
use Rattle.hx_shared.proofs.Seating.{under_drop, some_dropped, adds, legal_after}
use Rattle.hx_shared.proofs.shared.Shared.drop_hand.Goals as goal

pub leave_drop-requires-clause-stands : goal.leave_drop-requires-clause-stands
leave_drop-requires-clause-stands g c =
    let s = c.enter-cluster.ensures.stands in
    (s.0, s.1, (under_drop s.0 c.enter-cluster.result.cluster.value c.deref_mut.result.now c.drop_hand-dropped.new.self c.args.seat.now.me.0 c.enter-cluster.new.pass.me.0 c.args.worker _ (option_map (λ (brief : Brief). brief.key) c.drop_hand-dropped.result) c.requires.taken.0 s.2 c.enter-cluster.ensures.mine c.enter-cluster.ensures.keeps c.requires.taken.1 c.deref_mut.ensures.value refl c.drop_hand-dropped.ensures.simulates c.drop_hand-dropped.ensures.empty).0)

pub returns-clause-adds : goal.returns-clause-adds
returns-clause-adds g c = adds c.args.seat.now.me.0 c.enter-cluster.new.pass.me.0 c.leave_drop.new.seat.me.0 (call.Drop c.args.worker (option_map (λ (brief : Brief). brief.key) c.drop_hand-dropped.result)) (ap (λ m. m.0) c.leave_drop.ensures.entry) c.enter-cluster.ensures.keeps

pub returns-clause-legal : goal.returns-clause-legal
returns-clause-legal g c =
    let s = c.enter-cluster.ensures.stands in
    legal_after s.0 _ c.enter-cluster.new.pass.me.0 c.leave_drop.new.seat.me.0 (call.Drop c.args.worker (option_map (λ (brief : Brief). brief.key) c.drop_hand-dropped.result)) (ap (λ m. m.0) c.leave_drop.ensures.entry) s.1 ((under_drop s.0 c.enter-cluster.result.cluster.value c.deref_mut.result.now c.drop_hand-dropped.new.self c.args.seat.now.me.0 c.enter-cluster.new.pass.me.0 c.args.worker _ (option_map (λ (brief : Brief). brief.key) c.drop_hand-dropped.result) c.requires.taken.0 s.2 c.enter-cluster.ensures.mine c.enter-cluster.ensures.keeps c.requires.taken.1 c.deref_mut.ensures.value refl c.drop_hand-dropped.ensures.simulates c.drop_hand-dropped.ensures.empty).0)

pub returns-clause-held : goal.returns-clause-held
returns-clause-held g c =
    let s = c.enter-cluster.ensures.stands in
    some_dropped c.drop_hand-dropped.result (under_drop s.0 c.enter-cluster.result.cluster.value c.deref_mut.result.now c.drop_hand-dropped.new.self c.args.seat.now.me.0 c.enter-cluster.new.pass.me.0 c.args.worker _ (option_map (λ (brief : Brief). brief.key) c.drop_hand-dropped.result) c.requires.taken.0 s.2 c.enter-cluster.ensures.mine c.enter-cluster.ensures.keeps c.requires.taken.1 c.deref_mut.ensures.value refl c.drop_hand-dropped.ensures.simulates c.drop_hand-dropped.ensures.empty).1
