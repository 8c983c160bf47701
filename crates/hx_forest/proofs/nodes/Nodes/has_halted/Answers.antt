use Rattle.std.proofs.Common.{◌≡◌, ◌∙◌, ◌-◌, true, false, is_some, option_copied, option_map, sym, ap}
use Rattle.hx_forest.specs.Inside.{halt_by, is_halted_by, node_at, nodes_halt}
use Rattle.hx_forest.specs.NodeTable.{standing_of}
use Rattle.hx_forest.specs.ParentRefs.{forest_of, node_in, place_in}
use Rattle.hx_forest.proofs.ParentRefs.{node_above}
use Rattle.hx_forest.proofs.Stepping.{halts_with, halts_on, halted_by, such_node}
use Rattle.hx_forest.proofs.nodes.Nodes.has_halted.Goals as goal

pub loop-left-preserved : goal.loop-left-preserved
loop-left-preserved c =
    let nodes = c.args.self.now in
    let f = forest_of nodes in
    let left = c.loop-left.left in
    such_node (node_in (place_in nodes c.loop-left.at)) c.in-Some.member.now (sym (ap option_copied c.in-Some.is) ∙ c.standing.ensures) (λ node here stands.
    let above : node_in (place_in nodes c.above-at.result) ≡ node_at f node.parent = node_above nodes c.loop-left.at c.above-at.result node c.above-at.ensures here in
    let same : c.is_halted_by-has.result ≡ is_some (halt_by f node.parent) = c.is_halted_by-has.ensures ∙ (λ i. is_halted_by (stands i) ((c.standing-else-has.ensures ∙ ap (option_map standing_of) above) i)) ∙ halted_by node (node_at f node.parent) in
    (λ i. halts_with (same i) (nodes_halt (left - 1) f (above i)))
    ∙ halts_on left f (node_in (place_in nodes c.loop-left.at)) node false c.loop-left-test.true here
    ∙ ap (λ b. halts_with b (nodes_halt left f (node_in (place_in nodes c.loop-left.at)))) (sym c.if-has.false) ∙ c.loop-left.invariant)

pub loop-left-preserved-then-has : goal.loop-left-preserved-then-has
loop-left-preserved-then-has c =
    let nodes = c.args.self.now in
    let f = forest_of nodes in
    let left = c.loop-left.left in
    such_node (node_in (place_in nodes c.loop-left.at)) c.in-Some.member.now (sym (ap option_copied c.in-Some.is) ∙ c.standing.ensures) (λ node here stands.
    let above : node_in (place_in nodes c.above-at.result) ≡ node_at f node.parent = node_above nodes c.loop-left.at c.above-at.result node c.above-at.ensures here in
    (λ i. halts_with (c.if-has.true i) (nodes_halt (left - 1) f (above i)))
    ∙ halts_on left f (node_in (place_in nodes c.loop-left.at)) node true c.loop-left-test.true here
    ∙ ap (λ b. halts_with b (nodes_halt left f (node_in (place_in nodes c.loop-left.at)))) (sym c.if-has.true) ∙ c.loop-left.invariant)
