use Rattle.std.proofs.Common.{arith}
use Rattle.std.proofs.lemmas.Result.{IfOk-weaker}
use Rattle.hnc.proofs.Enough.{asks_within}
use Rattle.hnc.proofs.Making.{made_to-as, on_err, on_err_then, part_asked-as, part_settled-as}
use Rattle.hnc.proofs.generating.make_settled.Goals as goal

pub returns-in_err-ask_all-clause-part : goal.returns-in_err-ask_all-clause-part
returns-in_err-ask_all-clause-part g c = on_err c.from_residual.result _ (part_asked-as _ _ _ _ _ c.new-generated.ensures c.in_err-ask_all.ensures.some)

pub returns-clause-made : goal.returns-clause-made
returns-clause-made g c =
    IfOk-weaker c.settle_all.result _ _
    (λ end s. made_to-as _ _ _ _ _ end c.new-generated.ensures (asks_within c.args.workload.number c.args.workload.count (omega arith)) c.in_ok-ask_all.ensures.all s)
    c.settle_all.ensures.settled

pub returns-clause-part : goal.returns-clause-part
returns-clause-part g c = on_err_then c.settle_all.result _ _ (part_settled-as _ _ _ _ _ c.new-generated.ensures c.in_ok-ask_all.ensures.all) c.settle_all.ensures.some
