use Rattle.std.proofs.Common.{◌≡◌, ◌∙◌, [], ◌∷◌, Some, length, sym, ap}
use Rattle.hx_model.specs.First.{so, first}
use Rattle.hx_model.specs.declared.node.Halt.TheVariants.{Ancestor}
use Rattle.hx_model.specs.Forest.{node_of}
use Rattle.hx_forest.specs.Inside.{halt_at, node_at, nodes_halt}
use Rattle.hx_forest.specs.ParentRefs.{forest_of, node_in, place_in}
use Rattle.hx_forest.proofs.ParentRefs.{node_there, node_above, kept_place}
use Rattle.hx_forest.proofs.Reasons.{halt_walked, endless}
use Rattle.hx_forest.proofs.nodes.Nodes.halt_from.Goals as goal

pub halt_by_ring-requires-clause-ring : goal.halt_by_ring-requires-clause-ring
halt_by_ring-requires-clause-ring c =
    let nodes = c.args.self.now in
    let f = forest_of nodes in
    let n = c.args.name.now in
    kept_place nodes n c.args.at c.requires.at (λ p there lies.
    let above : node_in (place_in nodes c.above-above.result) ≡ node_at f p.node.parent = node_above nodes (Some c.args.at) c.above-above.result p.node c.above-above.ensures (ap node_in lies) in
    endless f n p.node (node_there nodes n ∙ ap node_in there) (ap (nodes_halt (length f) f) (sym above) ∙ sym c.has_halted.ensures ∙ c.in-None.is))

pub returns-in-Some : goal.returns-in-Some
returns-in-Some c =
    let nodes = c.args.self.now in
    let f = forest_of nodes in
    let n = c.args.name.now in
    let is_below = c.in-Some.is_below in
    kept_place nodes n c.args.at c.requires.at (λ p there lies.
    let node = p.node in
    let found : node_of f n ≡ Some node = node_there nodes n ∙ ap node_in there in
    let above : node_in (place_in nodes c.above-above.result) ≡ node_at f node.parent = node_above nodes (Some c.args.at) c.above-above.result node c.above-above.ensures (ap node_in lies) in
    let walk : nodes_halt (length f) f (node_at f node.parent) ≡ Some is_below = ap (nodes_halt (length f) f) (sym above) ∙ sym c.has_halted.ensures ∙ c.in-Some.is in
    c.halt_or_below.ensures
    ∙ ap (λ o. first (o ∷ so is_below Ancestor ∷ [])) (c.parent_halt.ensures node (ap node_in lies) ∙ ap (halt_at node.parent) above)
    ∙ halt_walked f n node is_below found walk)

pub returns-then-is_noted : goal.returns-then-is_noted
returns-then-is_noted c =
    let noted = c.is_noted.ensures c.if-is_noted.true in
    kept_place c.args.self.now c.args.name.now c.args.at c.requires.at (λ p there lies.
    sym ((c.requires.notes.each c.args.name.now p there noted.0).1 (noted.1 p lies)))
