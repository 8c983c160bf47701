use Rattle.std.proofs.Common.{◌==◌, not, length, ap, ◌∙◌}
use Rattle.hx_model.specs.Forest.{Forest, children_of}
use Rattle.hx_model.specs.Tree.{forest_of}
use Rattle.hx_admit.proofs.Families.{any_child}
use Rattle.hx_admit.proofs.family.has_children.Goals as goal

pub returns : goal.returns
returns c =
    let names = c.children.ensures.names ∙ ap (λ (f : Forest). children_of f c.args.name.now) c.forest.ensures in
    ap not (c.is_empty.ensures ∙ ap (λ ns. length ns == 0) names) ∙ any_child (forest_of c.args.state.now.state) c.args.name.now
