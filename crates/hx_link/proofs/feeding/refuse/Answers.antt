use Rattle.hx_link.proofs.Running.{on_ok-one, on_err-one}
use Rattle.hx_link.proofs.feeding.refuse.Goals as goal

pub returns-clause-does : goal.returns-clause-does
returns-clause-does g c = on_ok-one g.V.Service.does _ _ _ _ _ _ c.write_all.result (c.law_of_refused.ensures _ c.args.fault) (rw (c.as_bytes.ensures.value, c.reply.ensures) at c.write_all.ensures.whole)

pub returns-clause-cut : goal.returns-clause-cut
returns-clause-cut g c = on_err-one g.V.Service.does _ _ _ _ _ _ c.write_all.result (c.law_of_refused.ensures _ c.args.fault) (rw (c.as_bytes.ensures.value, c.reply.ensures) at c.write_all.ensures.cut)
