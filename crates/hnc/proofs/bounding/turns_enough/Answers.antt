use Rattle.std.proofs.Common.{◌∙◌, ap, length}
use Rattle.hnc.proofs.Enough.{enough_by}
use Rattle.hnc.proofs.bounding.turns_enough.Goals as goal

pub returns-in-Some-clause-enough : goal.returns-in-Some-clause-enough
returns-in-Some-clause-enough g c =
    enough_by c.args.cluster.now.state (length c.args.cluster.now.workers.waiting) c.count_of.result c.busy-counts.result.0 c.in-Some.turns
    (c.count_of.ensures ∙ ap length (c.deref.ensures.value ∙ c.in_ok-rows.ensures)) c.busy-counts.ensures.waiting c.in-Some.ensures
