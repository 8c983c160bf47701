use Rattle.std.proofs.Common.{◌≡◌, sym, ap, subst, ◌∙◌}
use Rattle.hx_forest.specs.Kept.{changed_by_all}
use Rattle.hx_model.specs.State.{State, after_writes, events_of}
use Rattle.hx_model.specs.Windows.{Ascend, newest}
use Rattle.hx_model.specs.Writes.{MayWriteAll}
use Rattle.hx_model.proofs.Homes.{housed_after}
use Rattle.hx_quota.specs.SubtreeUsage.{IsCounted}
use Rattle.hx_state.specs.Happening.{LogView}
use Rattle.hx_state.specs.Planning.{IsPlan}
use Rattle.hx_state.specs.StateView.{StateView, state_in}
use Rattle.hx_state.proofs.Counting.{valid_agrees}
use Rattle.hx_state.proofs.Staging.{may_make_all, may_stage, indexed_staged}
use Rattle.hx_state.proofs.Telling.{ascend_next}
use Rattle.hx_state.proofs.indexed_state.IndexedState.stage.Goals as goal

pub plan-requires : goal.plan-requires
plan-requires c =
    rw (c.discard.ensures.state, c.as_slice-2.ensures.value) (may_make_all c.args.self.now.state c.args.writes.items c.requires)

pub stage-requires-clause-may : goal.stage-requires-clause-may
stage-requires-clause-may c =
    let t = state_in c.self.inside.config c.self.inside.store.objects c.self.inside.store.version c.self.inside.log.window in
    let same = ap (λ (v : StateView). v.state) c.self.view_is in
    let writes = c.args.writes.items in
    let may = subst (λ (s : State). MayWriteAll s writes) (sym c.discard.ensures.state ∙ sym same) c.requires in
    let plan = subst (λ s. IsPlan s writes c.in_ok-plan.plan.counts c.in_ok-plan.plan.tree.items c.in_ok-plan.plan.owners.items) (sym same)
    (subst (λ ws. IsPlan c.discard.new.self.state ws c.in_ok-plan.plan.counts c.in_ok-plan.plan.tree.items c.in_ok-plan.plan.owners.items) c.as_slice-2.ensures.value c.in_ok-plan.ensures.plan) in
    rw (c.as_slice-3.ensures.value, c.as_slice-4.ensures.value)
    (may_stage t writes c.self.inside.counts c.in_ok-plan.plan.counts c.self.inside.forest.nodes c.self.inside.owners.nodes c.in_ok-plan.plan.tree.items c.in_ok-plan.plan.owners.items c.self.invariant.now plan (housed_after t writes may c.self.invariant.now.housed))

pub stage-requires-5 : goal.stage-requires-5
stage-requires-5 c =
    let log = c.self.inside.log in
    let t = state_in c.self.inside.config c.self.inside.store.objects c.self.inside.store.version log.window in
    let same = ap (λ (v : StateView). v.state) c.self.view_is in
    let writes = c.args.writes.items in
    let may = subst (λ (s : State). MayWriteAll s writes) (sym c.discard.ensures.state ∙ sym same) c.requires in
    let valid = valid_agrees c.self.inside.config c.self.inside.store.objects c.self.inside.store.version c.self.inside.counts c.self.inside.forest.nodes c.self.inside.owners.nodes c.self.invariant.now log.window c.self.invariant.recent in
    let told : c.in_ok-events.events.items ≡ events_of t writes = c.in_ok-events.ensures ∙ (λ i. events_of (sym same i) (c.as_slice.ensures.value i)) in
    subst (Ascend (newest log.window)) (sym told) (ascend_next t writes valid may)

pub invariant_of-self-2 : goal.invariant_of-self-2
invariant_of-self-2 c =
    let same = ap (λ (v : StateView). v.state) c.self.view_is in
    let may = subst (λ (s : State). MayWriteAll s c.args.writes.items) (sym c.discard.ensures.state) c.requires in
    let plan = subst (λ ws. IsPlan c.discard.new.self.state ws c.in_ok-plan.plan.counts c.in_ok-plan.plan.tree.items c.in_ok-plan.plan.owners.items) c.as_slice-2.ensures.value c.in_ok-plan.ensures.plan in
    let counted = subst (λ cs. IsCounted (after_writes c.args.writes.items c.self.inside.store.objects) (changed_by_all cs c.self.inside.forest.nodes) c.stage.new.self.next) c.as_slice-4.ensures.value
    (subst (λ ws. IsCounted (after_writes ws c.self.inside.store.objects) (changed_by_all c.as_slice-4.result.now c.self.inside.forest.nodes) c.stage.new.self.next) c.as_slice-3.ensures.value c.in_ok-stage.ensures.next) in
    let events = c.in_ok-events.ensures ∙ ap (events_of c.discard.new.self.state) c.as_slice.ensures.value in
    indexed_staged c.self.inside.config c.self.inside.store c.stage-4.new.self c.self.inside.counts c.self.inside.next c.in_ok-plan.plan.counts c.self.inside.forest c.stage-2.new.self c.self.inside.owners c.stage-3.new.self c.self.inside.usage c.stage.new.self c.self.inside.log c.stage-5.new.self c.in_ok-plan.plan.tree.items c.in_ok-plan.plan.owners.items c.discard.new.self.state c.args.writes.items
    c.self.invariant same may plan c.stage-4.ensures.objects c.stage-4.ensures.version c.in_ok-stage-4.ensures.staged c.stage-2.ensures.nodes c.in_ok-stage-2.ensures.staged c.stage-3.ensures.nodes c.in_ok-stage-3.ensures.staged c.stage.ensures.now counted
    (ap (λ (l : LogView). l.window) c.stage-5.ensures) (ap (λ (l : LogView). l.staged) c.stage-5.ensures ∙ events)
