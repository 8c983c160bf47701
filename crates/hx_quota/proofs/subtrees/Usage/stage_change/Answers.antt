use Rattle.hx_quota.proofs.Staged.{on_ok, may_some, then_some}
use Rattle.hx_quota.proofs.subtrees.Usage.stage_change.Goals as goal

pub stage_changes-requires : goal.stage_changes-requires
stage_changes-requires c =
    may_some c.args.store.now.objects c.args.forest.now.nodes c.args.change.now c.requires.may c.in_ok-changes.ensures.once c.requires.housed c.args.self.now.now c.requires.counted c.in_ok-changes.changes.items c.in_ok-changes.ensures.changes

pub returns-clause-next : goal.returns-clause-next
returns-clause-next c =
    on_ok c.stage_changes.result (then_some c.args.store.now.objects c.args.forest.now.nodes c.args.change.now c.requires.may c.in_ok-changes.ensures.once c.requires.housed c.args.self.now.now c.requires.counted c.in_ok-changes.changes.items c.in_ok-changes.ensures.changes
    c.stage_changes.new.self.next) c.stage_changes.ensures.next
