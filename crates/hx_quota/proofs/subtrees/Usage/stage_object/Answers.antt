use Rattle.std.proofs.Common.{◌≡◌, List, [], ◌∷◌, length, sym, subst, ◌∙◌, arith}
use Rattle.hx_forest.specs.Kept.{changed_by_all}
use Rattle.hx_forest.specs.declared.change.Change.{Change as TreeChange}
use Rattle.hx_model.specs.State.{after_writes}
use Rattle.hx_model.specs.declared.key.Write.{Write}
use Rattle.hx_quota.specs.SubtreeUsage.{IsHoused}
use Rattle.hx_quota.proofs.Staged.{empty, one_item}
use Rattle.hx_quota.proofs.subtrees.Usage.stage_object.Goals as goal

pub stage_write-requires-clause-housed : goal.stage_write-requires-clause-housed
stage_write-requires-clause-housed c =
    let objects = c.args.store.now.objects in
    let f = c.args.forest.now.nodes in
    let count : length c.args.writes.now ≡ 1 = omega (arith, c.in-len1.len_at_least, c.in-len1.len_below) in
    let one : c.args.writes.now ≡ c.write-item.result ∷ [] = one_item c.args.writes.now c.write-item.result c.write-item.result count c.write-item.is in
    let none : c.args.tree.now ≡ [] = empty c.args.tree.now (sym c.is_empty.ensures ∙ c.if-is_empty.true) in
    subst (λ (ws : List Write). IsHoused (after_writes ws objects) f) one (subst (λ (cs : List TreeChange). IsHoused (after_writes c.args.writes.now objects) (changed_by_all cs f)) none c.requires.may.housed)
