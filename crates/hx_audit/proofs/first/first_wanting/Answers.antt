use Rattle.hx_audit.proofs.Auditing.{told_all}
use Rattle.hx_audit.proofs.first.first_wanting.Goals as goal

pub returns : goal.returns
returns c = told_all c.in_ok-survey.survey c.args.objects.now c.args.excluded.now c.nodes.result.now c.least_wanting.result c.in_ok-survey.ensures c.nodes.ensures c.least_wanting.ensures
