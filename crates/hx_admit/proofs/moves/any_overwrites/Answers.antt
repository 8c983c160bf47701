use Rattle.std.proofs.Common.{ℕ, List, sym, ◌∙◌}
use Rattle.hx_model.specs.Moves.{open_chain, overwrites_in}
use Rattle.hx_admit.specs.Moves.{open_way}
use Rattle.hx_admit.proofs.Moved.{item_in, left_passes, left_fails}
use Rattle.hx_admit.proofs.moves.any_overwrites.Goals as goal

pub returns-then-branch : goal.returns-then-branch
returns-then-branch c =
    left_passes (λ (m : List ℕ). overwrites_in c.args.store.now.objects m (open_way c.args.forest.now.nodes c.args.namespace.now c.args.above.now m) (open_chain c.args.forest.now.nodes m)) c.args.members.now c.loop-member.member-index c.member-item.result
    c.loop-member-test.true c.member-item.is c.loop-member.invariant (sym c.in_ok-any_kind.ensures ∙ c.if-branch.true)

pub loop-member-preserved : goal.loop-member-preserved
loop-member-preserved c =
    left_fails (λ (m : List ℕ). overwrites_in c.args.store.now.objects m (open_way c.args.forest.now.nodes c.args.namespace.now c.args.above.now m) (open_chain c.args.forest.now.nodes m)) c.args.members.now c.loop-member.member-index c.member-item.result
    c.loop-member-test.true c.member-item.is c.loop-member.invariant (sym c.in_ok-any_kind.ensures ∙ c.if-branch.false)

pub any_kind-requires : goal.any_kind-requires
any_kind-requires c = record {
  apart = c.requires.apart c.member-item.result (item_in c.args.members.now c.loop-member.member-index c.member-item.result c.loop-member-test.true c.member-item.is);
}
