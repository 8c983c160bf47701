use Rattle.std.proofs.Common.{Some, length, ◌∙◌}
use Rattle.hx_model.specs.Forest.{chain_of}
use Rattle.hx_forest.specs.Inside.{walk_names}
use Rattle.hx_forest.specs.ParentRefs.{forest_of, name_in}
use Rattle.hx_forest.proofs.Passing.{names_chain}
use Rattle.hx_forest.proofs.Indices.{names_begin}
use Rattle.hx_forest.proofs.nodes.Nodes.ancestors.Goals as goal

pub returns : goal.returns
returns c =
    let nodes = c.args.self.now in
    let f = forest_of nodes in
    let n = c.args.name.now in
    (λ i. walk_names (c.chain_len_at.ensures i) f (name_in nodes (c.index_of-at.ensures i)))
    ∙ names_begin (length (chain_of f n)) nodes (Some n) ∙ names_chain f n
