use Rattle.std.proofs.Common.{◌∙◌, ap}
use Rattle.std.specs.Prelude.{slice_get}
use Rattle.hx_model.specs.State.{same_id}
use Rattle.hx_survey.proofs.Sides.{first_found}
use Rattle.hx_survey.proofs.search.find.Goals as goal

pub returns : goal.returns
returns c = c.first_in.ensures ∙ ap (λ objects. slice_get objects 0) c.run_of.ensures ∙ first_found (λ x. same_id (record { kind = c.args.kind; ns = c.args.ns.now; name = c.args.name.now }) x.id) c.args.objects.now
