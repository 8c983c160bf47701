use Rattle.std.proofs.Common.{◌∙◌, ap, List, ℕ}
use Rattle.std.specs.Prelude.{option_copied}
use Rattle.hx_model.specs.Forest.{chain_of}
use Rattle.hx_model.specs.Moves.{is_open_above}
use Rattle.hx_model.specs.TreeLabels.{is_open}
use Rattle.hx_marks.specs.Law.{all_of}
use Rattle.hx_marks.proofs.Adding.{carried}
use Rattle.hx_marks.proofs.MoveChains.{open_parent}
use Rattle.hx_marks.proofs.Sending.{next_passes, wanted}
use Rattle.hx_marks.proofs.senders.all_of_kinds.Goals as goal

pub come_to-requires-clause-part : goal.come_to-requires-clause-part
come_to-requires-clause-part c =
    let takes = next_passes (is_open c.args.current.now.forest.now.nodes) c.args.members.now c.loop-member.member-index c.member-item.result c.loop-member-test.true c.member-item.is c.loop-member.invariant.1.1 in
    ap (is_open_above c.args.current.now.forest.now.nodes) c.parent-parent.ensures ∙ open_parent c.args.current.now.forest.now.nodes c.member-item.result takes.0

pub loop-member-preserved : goal.loop-member-preserved
loop-member-preserved c =
    let objects = c.args.current.now.store.now.objects in
    let f = c.args.current.now.forest.now.nodes in
    let m = c.member-item.result in
    let next = next_passes (is_open f) c.args.members.now c.loop-member.member-index m c.loop-member-test.true c.member-item.is c.loop-member.invariant.1.1 in (
      carried (λ (n : List ℕ). all_of objects (chain_of f n) n) c.args.members.now c.loop-member.member-index m c.all_under.new.keys.items c.loop-member.keys.items _ c.loop-member-test.true c.member-item.is
          (wanted objects f c.args.kinds.now m (option_copied c.parent-parent.result) _ _ _ _ c.requires.kinds next.0 c.parent-parent.ensures c.in_ok-come_to.ensures c.deref.ensures.value c.in_ok-all_under.ensures)
          c.loop-member.invariant.0,
      (c.in_ok-come_to.ensures, next.1),
    )
