use Rattle.std.proofs.Common.{◌∙◌}
use Rattle.hx_survey.proofs.Homes.{namespaces_listed}
use Rattle.hx_survey.proofs.reading.namespaces_in.Goals as goal

pub returns : goal.returns
returns c = c.run_of.ensures ∙ namespaces_listed c.args.objects.now
