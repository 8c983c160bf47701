use Rattle.std.proofs.Common.{sym, ◌∙◌}
use Rattle.hx_forest.specs.Kept.{changed_by_all}
use Rattle.hx_quota.proofs.Staged.{on_ok, uncharged_housed, uncharged_some}
use Rattle.hx_quota.proofs.subtrees.Usage.stage.Goals as goal

pub stage_tree-requires-clause-housed : goal.stage_tree-requires-clause-housed
stage_tree-requires-clause-housed c =
    uncharged_housed c.args.store.now.objects (changed_by_all c.args.tree.now c.args.forest.now.nodes) c.args.writes.now c.requires.may.in_order (sym c.are_uncharged.ensures ∙ c.if-are_uncharged.true) c.requires.may.housed

pub returns-then-are_uncharged-clause-next : goal.returns-then-are_uncharged-clause-next
returns-then-are_uncharged-clause-next c =
    on_ok c.stage_tree.result (uncharged_some c.args.store.now.objects (changed_by_all c.args.tree.now c.args.forest.now.nodes) c.args.writes.now c.requires.may.in_order (sym c.are_uncharged.ensures ∙ c.if-are_uncharged.true) c.stage_tree.new.self.next)
    c.stage_tree.ensures.next
