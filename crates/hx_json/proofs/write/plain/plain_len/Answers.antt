use Rattle.std.proofs.Common.{arith, rules}
use Rattle.hx_json.proofs.Escapes.{plain_front, plain_whole}
use Rattle.hx_json.proofs.write.plain.plain_len.Goals as goal

pub returns-then-is_end_plain : goal.returns-then-is_end_plain
returns-then-is_end_plain c = plain_whole _ c.loop-at.at c.loop-at.invariant.0 (c.if-is_end_plain.ensures c.loop-at.at (omega (arith, c.loop-at.invariant.1, c.if-bytes-at-lt16.true)))

pub returns-else-wants_no_escape : goal.returns-else-wants_no_escape
returns-else-wants_no_escape c = plain_front _ _ c.loop-at-3.invariant.1 c.loop-at-3.invariant.0 (λ below. search rules)

pub returns-after-loop-at-3 : goal.returns-after-loop-at-3
returns-after-loop-at-3 c = plain_front _ _ c.loop-at-3.invariant.1 c.loop-at-3.invariant.0 (λ below. absurd (omega (arith, below)))
