use Rattle.hx_survey.proofs.Homes.{names_ascend}
use Rattle.hx_survey.proofs.survey.Survey.with_sums.Goals as goal

pub new-requires : goal.new-requires
new-requires c = rw c.in_ok-nodes.ensures (names_ascend c.args.excluded.now c.args.objects.now c.requires.order c.requires.homes)
