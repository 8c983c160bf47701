use Rattle.std.proofs.lemmas.Slice.Eq.{slice_eq-Decides}
use Rattle.hx_reconcile.proofs.Placing.{same_condition-Decides}
use Rattle.hx_reconcile.proofs.reports.is_same_conditions.Goals as goal

pub returns : goal.returns
returns c = slice_eq-Decides same_condition-Decides c.args.a.now c.args.b.now c.eq.result c.eq.ensures
