use Rattle.hnc.proofs.Making.{asked_all, asked_more, asked_none, asked_some, on_err}
use Rattle.hnc.proofs.generating.ask_all.Goals as goal

pub loop-init : goal.loop-init
loop-init g c = asked_none c.args.generated.now c.args.cluster.now c.law_of_worlds.ensures.world

pub returns-in_err-ask_next-clause-some : goal.returns-in_err-ask_next-clause-some
returns-in_err-ask_next-clause-some g c = on_err c.from_residual.result _ (asked_some _ _ _ _ _ _ c.in_err-ask_next.field-0.0 c.loop.invariant c.in_err-ask_next.ensures)

pub loop-preserved : goal.loop-preserved
loop-preserved g c = asked_more c.in_ok-ask_next.field-0 _ _ _ _ _ _ c.loop.invariant c.if-branch.true c.in_ok-ask_next.ensures

pub returns-clause-all : goal.returns-clause-all
returns-clause-all g c = asked_all c.in_ok-ask_next.field-0 _ _ _ _ _ _ c.loop.invariant c.if-branch.false c.in_ok-ask_next.ensures
