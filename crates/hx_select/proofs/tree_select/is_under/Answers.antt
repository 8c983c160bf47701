use Rattle.std.proofs.Common.{◌∙◌, ◌++◌, ap}
use Rattle.hx_object.specs.WellKnown.{tree_suffix}
use Rattle.hx_select.specs.TreeSelects.{is_under}
use Rattle.hx_select.proofs.Labels.{label_there}
use Rattle.hx_select.proofs.tree_select.is_under.Goals as goal

pub returns : goal.returns
returns c =
    c.has_tree_label.ensures ∙ label_there (c.args.name.now ++ tree_suffix) c.as_slice.result.now
    ∙ ap (λ labels. is_under labels c.args.name.now) c.as_slice.ensures.pairs
