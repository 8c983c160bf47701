use Rattle.std.proofs.Common.{inr}
use Rattle.hnc.proofs.Making.{asked_one}
use Rattle.hnc.proofs.generating.ask_next.Goals as goal

pub returns-then-wants_memory : goal.returns-then-wants_memory
returns-then-wants_memory g c =
    inr (asked_one c.in_ok-ask.field-0 c.in-Some.ask c.request-answer.result _ _ _ _ c.in-Some.is c.in_ok-ask.ensures.next c.request-answer.ensures.simulates c.request-answer.ensures.marked.marked.hands)

pub returns : goal.returns
returns g c =
    (asked_one c.in_ok-ask.field-0 c.in-Some.ask c.request-answer.result _ _ _ _ c.in-Some.is c.in_ok-ask.ensures.next c.request-answer.ensures.simulates c.request-answer.ensures.marked.marked.hands, c.wants_memory.ensures c.if-wants_memory.false)
