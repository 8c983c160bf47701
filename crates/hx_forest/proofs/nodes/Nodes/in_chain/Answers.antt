use Rattle.std.proofs.Common.{Some, length, ap, ◌∙◌, is_some}
use Rattle.hx_model.proofs.Walking.{walk_has_chain, walk_to_has}
use Rattle.hx_forest.specs.ParentRefs.{forest_of}
use Rattle.hx_forest.proofs.nodes.Nodes.in_chain.Goals as goal

pub returns : goal.returns
returns c =
    let f = forest_of c.args.self.now in
    c.is_some.ensures ∙ ap is_some c.steps_to.ensures ∙ walk_to_has (length f) f (Some c.args.name.now) c.args.above.now ∙ walk_has_chain f c.args.name.now c.args.above.now
