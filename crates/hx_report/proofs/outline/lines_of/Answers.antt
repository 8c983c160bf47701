use Rattle.std.proofs.Common.{ap, ◌∙◌, length, map}
use Rattle.std.specs.List.{flat_map}
use Rattle.std.proofs.lemmas.Result.{IfOk-weaker}
use Rattle.hx_survey.specs.Surveyed.{tree_of}
use Rattle.hx_report.specs.Inside.{list_at}
use Rattle.hx_report.specs.Outline.{below, line_at, lines_under, tops}
use Rattle.hx_report.proofs.Opening.{same_lines}
use Rattle.hx_report.proofs.outline.lines_of.Goals as goal

pub returns : goal.returns
returns c =
    let f = tree_of c.args.survey.now in
    let places = c.in_ok-places.places in
    IfOk-weaker c.spread.result _ _ (λ lines is.
    is
    ∙ same_lines (list_at places) (below f) (length c.nodes.result.now) places.tops.items (tops f) c.in_ok-places.ensures.below c.in_ok-places.ensures.tops
    ∙ ap (λ n. flat_map (lines_under (below f) n) (map (line_at 0) (tops f))) (ap length c.nodes.ensures)) c.spread.ensures
