use Rattle.hx_survey.proofs.Sides.{run_of_sought, ends_order, end_within}
use Rattle.hx_survey.proofs.search.run_of.Goals as goal

pub between-requires : goal.between-requires
between-requires c = record {
  order = rw (c.start_of-start.ensures, c.end_of-end.ensures) (ends_order c.args.sought c.args.objects.now);
  within = rw c.end_of-end.ensures (end_within c.args.sought c.args.objects.now);
}

pub returns : goal.returns
returns c = rw (c.between.ensures, c.start_of-start.ensures, c.end_of-end.ensures) (run_of_sought c.args.sought c.args.objects.now c.requires)
