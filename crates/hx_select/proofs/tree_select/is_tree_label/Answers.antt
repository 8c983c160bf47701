use Rattle.std.proofs.Common.{◌∙◌}
use Rattle.hx_object.specs.WellKnown.{tree_suffix}
use Rattle.hx_select.proofs.Labels.{no_front_by, same_front_by}
use Rattle.hx_select.proofs.tree_select.is_tree_label.Goals as goal

pub returns-in-Some : goal.returns-in-Some
returns-in-Some c =
    let cases = c.in-Some.ensures.cases in
    c.eq.ensures ∙ same_front_by c.args.key.now c.args.name.now tree_suffix _ _ _ _ c.as_bytes.ensures.value c.as_bytes-in-Some.ensures.value c.as_bytes-2.ensures.value cases.0 cases.1

pub returns-in-None : goal.returns-in-None
returns-in-None c = no_front_by c.args.key.now c.args.name.now tree_suffix _ _ c.as_bytes.ensures.value c.as_bytes-2.ensures.value c.in-None.ensures.cases
