use Rattle.std.proofs.Common.{◌≡◌, ◌+◌, Some, length, sym, ap, ◌∙◌}
use Rattle.hx_model.proofs.Walking.{walk_ends_length}
use Rattle.hx_model.specs.Forest.{node_of}
use Rattle.hx_forest.specs.Inside.{nodes_end}
use Rattle.hx_forest.specs.ParentRefs.{forest_of, node_in, place_in}
use Rattle.hx_forest.proofs.Stepping.{ends_same}
use Rattle.hx_forest.proofs.ParentRefs.{node_at_name}
use Rattle.hx_forest.proofs.nodes.Nodes.chain_len_at.Goals as goal

pub returns-in-Some : goal.returns-in-Some
returns-in-Some c =
    let nodes = c.args.self.now in
    let f = forest_of nodes in
    let n = c.args.name.now in
    let node : node_in (place_in nodes c.args.at) ≡ node_of f n = ap (λ o. node_in (place_in nodes o)) c.requires.at ∙ node_at_name nodes (Some n) in
    sym (walk_ends_length (length f + 1) f n c.in-Some.len
    (sym (ends_same (length f + 1) f (Some n)) ∙ ap (nodes_end (length f + 1) f) (sym node) ∙ sym c.walk_len.ensures ∙ c.in-Some.is))
