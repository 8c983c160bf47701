use Rattle.hx_link.proofs.feeding.feed_waiting.Goals as goal

pub returns-in-Ok-On-clause-goes_on : goal.returns-in-Ok-On-clause-goes_on
returns-in-Ok-On-clause-goes_on g c = λ _. rw c.discard.ensures (rw (c.as_slice.ensures.value, c.in-Ok-On.field-0-is) at c.in-Ok-On.ensures.goes_on)
