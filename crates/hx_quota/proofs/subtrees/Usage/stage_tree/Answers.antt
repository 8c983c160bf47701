use Rattle.std.proofs.Common.{sym, ◌∙◌}
use Rattle.hx_quota.proofs.Staged.{staying_some}
use Rattle.hx_quota.proofs.subtrees.Usage.stage_tree.Goals as goal

pub returns-then-leaves_parents-clause-next : goal.returns-then-leaves_parents-clause-next
returns-then-leaves_parents-clause-next c =
    staying_some c.args.store.now.objects c.args.forest.now.nodes c.args.tree.now (sym c.leaves_parents.ensures ∙ c.if-leaves_parents.true) c.args.self.now.now c.args.self.now.next c.requires.counted c.requires.staged
