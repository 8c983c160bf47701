use Rattle.std.proofs.Common.{◌∙◌}
use Rattle.hx_survey.proofs.Least.{least_by_kinds}
use Rattle.hx_survey.proofs.search.least_in.Goals as goal

pub returns : goal.returns
returns c = c.first_of_kinds.ensures ∙ least_by_kinds c.args.ns.now c.args.objects.now c.requires
