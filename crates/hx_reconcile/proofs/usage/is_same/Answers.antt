use Rattle.std.proofs.lemmas.Slice.Eq.{slice_eq-Decides}
use Rattle.hx_reconcile.proofs.Placing.{same_usage-Decides}
use Rattle.hx_reconcile.proofs.usage.is_same.Goals as goal

pub returns : goal.returns
returns c = slice_eq-Decides same_usage-Decides c.args.a.now c.args.b.now c.eq.result c.eq.ensures
