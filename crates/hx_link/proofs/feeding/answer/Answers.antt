use Rattle.hx_link.proofs.Running.{on_ok-one, on_err-one}
use Rattle.hx_link.proofs.feeding.answer.Goals as goal

pub returns-clause-does : goal.returns-clause-does
returns-clause-does g c = on_ok-one g.V.Service.does _ c.answer-text.result.now _ _ _ _ c.write_all-written.result c.answer-text.ensures (rw c.as_bytes.ensures.value at c.write_all-written.ensures.whole)

pub returns-clause-cut : goal.returns-clause-cut
returns-clause-cut g c = on_err-one g.V.Service.does _ c.answer-text.result.now _ _ _ _ c.write_all-written.result c.answer-text.ensures (rw c.as_bytes.ensures.value at c.write_all-written.ensures.cut)
