use Rattle.std.proofs.Common.{◌≡◌, ◌≤◌, sym, subst, ◌∙◌}
use Rattle.hx_model.specs.State.{object_at}
use Rattle.hx_store.specs.Changes.{id_of, object_of}
use Rattle.hx_state.specs.Counting.{Counts, gone, name_change}
use Rattle.hx_state.proofs.Counting.{agrees_named, agrees_seen}
use Rattle.hx_state.proofs.NameCounts.{names_by}
use Rattle.hx_state.proofs.Staging.{plan_step, plan_small, plan_part, plan_named}
use Rattle.hx_state.proofs.indexed_state.IndexedState.plan.Goals as goal

pub counts_after-requires-clause-small : goal.counts_after-requires-clause-small
counts_after-requires-clause-small c =
    rw (c.object_before-old.ensures, c.object_after-new.ensures) (plan_small c.args.self.now.state c.args.writes.now c.loop-write.write-index c.write-item.result c.self.inside.counts c.self.inside.forest.nodes c.self.inside.owners.nodes (agrees_seen c.self.view_is c.self.invariant.now) c.requires c.loop-write-test.true c.write-item.is)

pub counts_after-requires-clause-counted : goal.counts_after-requires-clause-counted
counts_after-requires-clause-counted c =
    rw c.object_before-old.ensures (plan_part c.args.self.now.state c.args.writes.now c.loop-write.counts c.loop-write.tree.items c.loop-write.owners.items (agrees_named _ _ _ _ _ _ (agrees_seen c.self.view_is c.self.invariant.now)) c.requires
    c.loop-write.write-index c.write-item.result c.loop-write-test.true c.write-item.is c.loop-write.invariant)

pub counts_after-requires-clause-named : goal.counts_after-requires-clause-named
counts_after-requires-clause-named c =
    let s = c.args.self.now.state in
    let named : c.in_ok-name.name ≡ names_by s.objects c.write-item.result = c.in_ok-name.ensures ∙ (λ i. name_change s.objects (c.id.ensures i) (c.object_before-old.ensures i) (c.object_after-new.ensures i)) in
    subst (λ name. gone name ≤ c.loop-write.counts.names) (sym named)
    (plan_named s c.args.writes.now c.loop-write.counts c.loop-write.tree.items c.loop-write.owners.items (agrees_named _ _ _ _ _ _ (agrees_seen c.self.view_is c.self.invariant.now)) c.requires
    c.loop-write.write-index c.write-item.result c.loop-write-test.true c.write-item.is c.loop-write.invariant)

pub loop-write-preserved : goal.loop-write-preserved
loop-write-preserved c =
    let s = c.args.self.now.state in
    let w = c.write-item.result in
    let named : c.in_ok-name.name ≡ names_by s.objects w = c.in_ok-name.ensures ∙ (λ i. name_change s.objects (c.id.ensures i) (c.object_before-old.ensures i) (c.object_after-new.ensures i)) in
    let moves : Counts (object_at s.objects (id_of w)) (object_of w) (names_by s.objects w) c.loop-write.counts c.in_ok-counts.counts =
    subst (λ name. Counts (object_at s.objects (id_of w)) (object_of w) name c.loop-write.counts c.in_ok-counts.counts) named (rw (← c.object_before-old.ensures, ← c.object_after-new.ensures) c.in_ok-counts.ensures) in
    plan_step s c.args.writes.now c.loop-write.counts c.loop-write.tree.items c.loop-write.owners.items (agrees_named _ _ _ _ _ _ (agrees_seen c.self.view_is c.self.invariant.now)) c.requires
    c.loop-write.write-index w c.loop-write-test.true c.write-item.is c.loop-write.invariant c.in_ok-counts.counts c.push_changes.new.tree.items c.push_changes.new.owners.items moves
    c.in_ok-push_changes.ensures.tree c.in_ok-push_changes.ensures.owners
