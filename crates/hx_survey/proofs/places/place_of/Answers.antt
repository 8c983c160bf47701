use Rattle.std.proofs.Common.{◌∙◌, sym, ap, true, false}
use Rattle.hx_survey.specs.Inside.{has_name}
use Rattle.hx_survey.proofs.Placed.{place_by}
use Rattle.hx_survey.proofs.places.place_of.Goals as goal

pub returns-then-has_name : goal.returns-then-has_name
returns-then-has_name c =
    place_by c.args.name.now c.args.nodes.now c.before-place.result true c.requires c.before-place.ensures
    (sym (ap (has_name c.args.name.now) c.entry_at.ensures) ∙ sym c.has_name.ensures ∙ c.if-has_name.true)

pub returns-else-has_name : goal.returns-else-has_name
returns-else-has_name c =
    place_by c.args.name.now c.args.nodes.now c.before-place.result false c.requires c.before-place.ensures
    (sym (ap (has_name c.args.name.now) c.entry_at.ensures) ∙ sym c.has_name.ensures ∙ c.if-has_name.false)
