use Rattle.std.proofs.Common.{◌≡◌, ◌+◌, ◌∙◌, ℕ, length, option_copied, sym, ap, arith}
use Rattle.hx_model.specs.Forest.{chain_of}
use Rattle.hx_model.proofs.Climbing.{few}
use Rattle.hx_model.proofs.Walking.{chain_there}
use Rattle.hx_forest.specs.Inside.{chain_count}
use Rattle.hx_forest.specs.ParentRefs.{forest_of}
use Rattle.hx_forest.proofs.Rings.{count_chain, count_round}
use Rattle.hx_forest.proofs.nodes.Nodes.len_to_ring.Goals as goal

pub loop-left-init : goal.loop-left-init
loop-left-init c =
    let f = forest_of c.args.self.now in
    let n = c.args.name.now in
    let whole : chain_count c.len-left.result f n ≡ length (chain_of f n) = ap (λ (k : ℕ). chain_count k f n) c.len-left.ensures.len ∙ count_chain f n in
    (omega (arith, whole), omega (arith, c.len-left.ensures.len))

pub overflow_add-result-in-Some-steps_to : goal.overflow_add-result-in-Some-steps_to
overflow_add-result-in-Some-steps_to c =
    let f = forest_of c.args.self.now in
    let n = c.args.name.now in
    let round : chain_count c.loop-left.left f c.loop-left.member.now ≡ c.in-Some-steps_to.steps + 1 =
    count_round c.loop-left.left f c.loop-left.member.now c.in-Some-as_ref.parent.now c.in-Some.node.now c.in-Some-steps_to.steps c.loop-left-test.true (sym c.node.ensures ∙ ap option_copied c.in-Some.is) (sym c.as_ref.ensures.value ∙ ap option_copied c.in-Some-as_ref.is) (sym c.steps_to.ensures ∙ c.in-Some-steps_to.is) in
    omega (arith, round, c.loop-left.invariant.0, few f (chain_of f n) (chain_there f n), c.len-left.ensures.len, c.len-left.ensures.small)

pub overflow_add-result-in-Some-steps_to-2 : goal.overflow_add-result-in-Some-steps_to-2
overflow_add-result-in-Some-steps_to-2 c =
    let f = forest_of c.args.self.now in
    let n = c.args.name.now in
    let round : chain_count c.loop-left.left f c.loop-left.member.now ≡ c.in-Some-steps_to.steps + 1 =
    count_round c.loop-left.left f c.loop-left.member.now c.in-Some-as_ref.parent.now c.in-Some.node.now c.in-Some-steps_to.steps c.loop-left-test.true (sym c.node.ensures ∙ ap option_copied c.in-Some.is) (sym c.as_ref.ensures.value ∙ ap option_copied c.in-Some-as_ref.is) (sym c.steps_to.ensures ∙ c.in-Some-steps_to.is) in
    omega (arith, round, c.loop-left.invariant.0, few f (chain_of f n) (chain_there f n), c.len-left.ensures.len, c.len-left.ensures.small)
