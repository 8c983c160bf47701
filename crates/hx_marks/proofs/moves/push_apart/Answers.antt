use Rattle.hx_marks.proofs.Adding.{grown}
use Rattle.hx_marks.proofs.Searching.{same_apart}
use Rattle.hx_marks.proofs.moves.push_apart.Goals as goal

pub returns : goal.returns
returns c = grown c.push_missing.result _ _ _ _ (same_apart c.args.names.now c.in_ok-set.set c.args.others.now c.in_ok-set.ensures) c.push_missing.ensures
