use Rattle.std.proofs.Common.{rules, ◌≡◌, ◌&&◌, Some, sym, ap, ◌∙◌}
use Rattle.std.specs.Prelude.{is_none}
use Rattle.hx_model.specs.Forest.{node_of, halt_of}
use Rattle.hx_forest.specs.ParentRefs.{forest_of, node_in, index_at, place_in}
use Rattle.hx_forest.proofs.ParentRefs.{node_there, place_at_name, kept_place}
use Rattle.hx_forest.proofs.Reasons.{open_by, closed_by}
use Rattle.hx_forest.proofs.nodes.Nodes.is_open.Goals as goal

pub returns-then-is_eligible : goal.returns-then-is_eligible
returns-then-is_eligible c =
    let nodes = c.args.self.now in
    let f = forest_of nodes in
    let n = c.args.name.now in
    let at : index_at nodes (Some n) ≡ Some c.in-Some.at = sym c.index_of.ensures ∙ c.in-Some.is in
    let none : c.is_none.result ≡ is_none c.halt_from.result = search rules in
    kept_place nodes n c.in-Some.at at (λ p there lies.
    let found : node_of f n ≡ Some p.node = node_there nodes n ∙ ap node_in there in
    none ∙ ap is_none c.halt_from.ensures ∙ ap (λ b. b && is_none (halt_of f n)) (sym c.if-is_eligible.true ∙ c.is_eligible.ensures p.node (ap node_in lies)) ∙ open_by f n p.node found)

pub returns-else-is_eligible : goal.returns-else-is_eligible
returns-else-is_eligible c =
    let nodes = c.args.self.now in
    let f = forest_of nodes in
    let n = c.args.name.now in
    let at : index_at nodes (Some n) ≡ Some c.in-Some.at = sym c.index_of.ensures ∙ c.in-Some.is in
    kept_place nodes n c.in-Some.at at (λ p there lies.
    let found : node_of f n ≡ Some p.node = node_there nodes n ∙ ap node_in there in
    c.if-is_eligible.false ∙ ap (λ b. b && is_none (halt_of f n)) (sym c.if-is_eligible.false ∙ c.is_eligible.ensures p.node (ap node_in lies)) ∙ open_by f n p.node found)

pub returns-in-None : goal.returns-in-None
returns-in-None c =
    let nodes = c.args.self.now in
    let n = c.args.name.now in
    closed_by (forest_of nodes) n (node_there nodes n ∙ ap node_in (sym (place_at_name nodes (Some n)) ∙ ap (place_in nodes) (sym c.index_of.ensures ∙ c.in-None.is)))
