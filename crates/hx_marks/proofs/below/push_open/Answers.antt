use Rattle.std.proofs.Common.{rules, ◌≡◌, ◌++◌, [], ◌∷◌, sym, ap, ◌∙◌}
use Rattle.hx_model.specs.Moves.{is_open_above}
use Rattle.hx_model.specs.TreeLabels.{is_open}
use Rattle.hx_marks.proofs.Adding.{kept_next}
use Rattle.hx_marks.proofs.MoveChains.{open_parent}
use Rattle.hx_marks.proofs.below.push_open.Goals as goal

pub loop-member-preserved : goal.loop-member-preserved
loop-member-preserved c =
    let f = c.args.forest.now.nodes in
    let m = c.member-item.result in
    let takes = sym c.is_open_beside.ensures ∙ c.if-not-is_open_beside.false in
    let added : c.push.new.self.items ≡ c.loop-member.list.items ++ m ∷ [] = search rules in (
      kept_next (is_open f) c.args.members.now c.loop-member.member-index m c.push.new.self.items c.loop-member.list.items _ c.loop-member-test.true c.member-item.is takes added c.loop-member.invariant.0,
      (ap (is_open_above f) c.parent-above.ensures ∙ open_parent f m takes, takes),
    )
