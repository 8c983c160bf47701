use Rattle.std.proofs.Common.{◌∙◌, Some, ap}
use Rattle.std.specs.Prelude.{slice_get}
use Rattle.hx_model.specs.State.{is_listed}
use Rattle.hx_survey.proofs.Sides.{first_found}
use Rattle.hx_survey.proofs.search.first_of_kind.Goals as goal

pub returns : goal.returns
returns c = c.first_in.ensures ∙ ap (λ objects. slice_get objects 0) c.listed_in.ensures ∙ first_found (is_listed c.args.kind (Some c.args.ns.now)) c.args.objects.now
