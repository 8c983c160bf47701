use Rattle.std.proofs.Common.{◌≡◌, true, sym, ap, subst, ◌∙◌}
use Rattle.hx_forest.specs.Kept.{changed_by_all}
use Rattle.hx_model.specs.State.{State, has_home, after_writes}
use Rattle.hx_model.specs.Valid.{IsStored}
use Rattle.hx_quota.specs.SubtreeUsage.{IsCounted}
use Rattle.hx_state.specs.Planning.{MayMakeAll, IsPlan}
use Rattle.hx_state.specs.StateView.{StateView, state_in}
use Rattle.hx_state.proofs.Loading.{may_load, housed_loaded, indexed_loaded}
use Rattle.hx_state.proofs.Staging.{may_stage}
use Rattle.hx_state.proofs.indexed_state.IndexedState.load.Goals as goal

pub plan-requires : goal.plan-requires
plan-requires c =
    subst (λ (s : State). MayMakeAll s c.as_slice.result.now) (sym c.discard.ensures.state)
    (may_load c.args.self.now.state c.args.object c.requires.stored c.as_slice.result.now (c.as_slice.ensures.value ∙ c.in_ok-writes.ensures) c.requires.new)

pub stage-requires-clause-may : goal.stage-requires-clause-may
stage-requires-clause-may c =
    let t = state_in c.self.inside.config c.self.inside.store.objects c.self.inside.store.version c.self.inside.log.window in
    let same = ap (λ (v : StateView). v.state) c.self.view_is in
    let writes = c.in_ok-writes.writes.items in
    let stored = subst (λ (s : State). IsStored s.last c.args.object) (sym c.discard.ensures.state ∙ sym same) c.requires.stored in
    let home = subst (λ (s : State). has_home s.objects c.args.object.id ≡ true) (sym c.discard.ensures.state ∙ sym same) c.requires.home in
    let plan = subst (λ s. IsPlan s writes c.in_ok-plan.plan.counts c.in_ok-plan.plan.tree.items c.in_ok-plan.plan.owners.items) (sym same)
    (subst (λ ws. IsPlan c.discard.new.self.state ws c.in_ok-plan.plan.counts c.in_ok-plan.plan.tree.items c.in_ok-plan.plan.owners.items) c.as_slice.ensures.value c.in_ok-plan.ensures.plan) in
    rw (c.as_slice-2.ensures.value, c.as_slice-3.ensures.value)
    (may_stage t writes c.self.inside.counts c.in_ok-plan.plan.counts c.self.inside.forest.nodes c.self.inside.owners.nodes c.in_ok-plan.plan.tree.items c.in_ok-plan.plan.owners.items c.self.invariant.now plan
    (housed_loaded t c.args.object stored writes c.in_ok-writes.ensures home c.self.invariant.now.housed))

pub invariant_of-self-2 : goal.invariant_of-self-2
invariant_of-self-2 c =
    let same = ap (λ (v : StateView). v.state) c.self.view_is in
    let stored = subst (λ (s : State). IsStored s.last c.args.object) (sym c.discard.ensures.state) c.requires.stored in
    let home = subst (λ (s : State). has_home s.objects c.args.object.id ≡ true) (sym c.discard.ensures.state) c.requires.home in
    let staged = c.in_ok-stage-4.ensures.staged ∙ sym c.as_slice.ensures.value in
    let counted = subst (λ cs. IsCounted (after_writes c.as_slice.result.now c.self.inside.store.objects) (changed_by_all cs c.self.inside.forest.nodes) c.stage.new.self.next) c.as_slice-3.ensures.value
    (subst (λ ws. IsCounted (after_writes ws c.self.inside.store.objects) (changed_by_all c.as_slice-3.result.now c.self.inside.forest.nodes) c.stage.new.self.next) (c.as_slice-2.ensures.value ∙ sym c.as_slice.ensures.value) c.in_ok-stage.ensures.next) in
    indexed_loaded c.self.inside.config c.self.inside.store c.apply.new.self c.self.inside.counts c.self.inside.next c.in_ok-plan.plan.counts c.self.inside.forest c.apply-2.new.self c.self.inside.owners c.apply-3.new.self c.self.inside.usage c.self.inside.log c.in_ok-plan.plan.tree.items c.in_ok-plan.plan.owners.items c.discard.new.self.state c.args.object c.as_slice.result.now
    c.self.invariant same stored home (c.as_slice.ensures.value ∙ c.in_ok-writes.ensures) c.in_ok-plan.ensures.plan (c.apply.ensures.objects ∙ (λ i. after_writes (staged i) (c.stage-4.ensures.objects i))) (c.apply.ensures.version ∙ c.version-version.ensures ∙ c.stage-4.ensures.version) c.apply.ensures.staged
    (c.apply-2.ensures.nodes ∙ (λ i. changed_by_all (c.in_ok-stage-2.ensures.staged i) (c.stage-2.ensures.nodes i)))
    (c.apply-3.ensures.nodes ∙ (λ i. changed_by_all (c.in_ok-stage-3.ensures.staged i) (c.stage-3.ensures.nodes i)))
    c.apply-4.new.self (subst (λ o. IsCounted (after_writes c.as_slice.result.now c.self.inside.store.objects) (changed_by_all c.in_ok-plan.plan.tree.items c.self.inside.forest.nodes) o) (sym c.apply-4.ensures.now) counted) (ap (λ (v : StateView). v.staged) c.self.view_is ∙ c.discard.ensures.staged)
