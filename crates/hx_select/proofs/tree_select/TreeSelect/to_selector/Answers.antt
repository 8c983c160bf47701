use Rattle.std.proofs.Common.{◌∙◌, ◌++◌, ap}
use Rattle.hx_select.specs.TreeLabels.{absent_needs, plain_needs}
use Rattle.hx_select.proofs.Selecting.{tree-selects}
use Rattle.hx_select.proofs.tree_select.TreeSelect.to_selector.Goals as goal

pub returns : goal.returns
returns c =
    tree-selects c.args.self.now c.of.result
    (c.of.ensures ∙ c.in_ok-push_absent.ensures ∙ ap (λ needs. needs ++ absent_needs c.as_slice.result.now) c.in_ok-needs.ensures
    ∙ ap (λ names. plain_needs c.args.self.now.plain ++ absent_needs names) c.as_slice.ensures)
