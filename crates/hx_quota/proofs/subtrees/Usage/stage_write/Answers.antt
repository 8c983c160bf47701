use Rattle.std.proofs.Common.{rules, ◌≡◌, ◌∙◌, ap, [], false, length}
use Rattle.std.specs.Prelude.{nat_eq}
use Rattle.hx_object.specs.declared.object.Id.{Id}
use Rattle.hx_quota.proofs.Staged.{on_ok, filled, unchanged_some, shift_some, shifted_some}
use Rattle.hx_quota.proofs.subtrees.Usage.stage_write.Goals as goal

pub returns-then-is_empty-clause-next : goal.returns-then-is_empty-clause-next
returns-then-is_empty-clause-next c =
    let none : c.in_ok-deltas.deltas.items ≡ [] = search rules in
    unchanged_some c.args.store.now.objects c.args.forest.now.nodes c.args.write.now c.requires.in_order c.in_ok-deltas.deltas.items c.in_ok-deltas.ensures none c.args.self.now.now c.args.self.now.next c.requires.counted c.requires.staged

pub stage_shift-requires : goal.stage_shift-requires
stage_shift-requires c =
    let some : nat_eq (length c.in_ok-deltas.deltas.items) 0 ≡ false = search rules in
    shift_some c.args.store.now.objects c.args.forest.now.nodes c.args.write.now c.requires.in_order c.requires.housed c.in_ok-ns.ns c.in_ok-deltas.deltas.items
    (c.in_ok-ns.ensures.cases ∙ ap (λ (q : Id). q.ns) c.id.ensures) c.in_ok-deltas.ensures (filled c.in_ok-deltas.deltas.items some) c.args.self.now.now c.requires.counted

pub returns-clause-next : goal.returns-clause-next
returns-clause-next c =
    let some : nat_eq (length c.in_ok-deltas.deltas.items) 0 ≡ false = search rules in
    on_ok c.stage_shift.result (shifted_some c.args.store.now.objects c.args.forest.now.nodes c.args.write.now c.requires.in_order c.requires.housed c.in_ok-ns.ns c.in_ok-deltas.deltas.items
    (c.in_ok-ns.ensures.cases ∙ ap (λ (q : Id). q.ns) c.id.ensures) c.in_ok-deltas.ensures (filled c.in_ok-deltas.deltas.items some) c.args.self.now.now c.stage_shift.new.self.next c.requires.counted) c.stage_shift.ensures.next
