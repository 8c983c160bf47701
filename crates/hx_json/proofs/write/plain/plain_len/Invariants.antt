use Rattle.std.proofs.Common.{length, ◌-◌, ◌≤◌}
use Rattle.json.specs.Written.{PlainBetween}
use Rattle.hx_json.proofs.write.plain.plain_len.Given as goal

abbrev pub invariant-loop-at : goal.invariant-loop-at
invariant-loop-at l = PlainBetween l.bytes 0 l.at × l.at ≤ length l.bytes

abbrev pub decreases-loop-at : goal.decreases-loop-at
decreases-loop-at l = length l.bytes - l.at

abbrev pub invariant-loop-at-2 : goal.invariant-loop-at-2
invariant-loop-at-2 l = PlainBetween l.bytes 0 l.at × l.at ≤ length l.bytes

abbrev pub decreases-loop-at-2 : goal.decreases-loop-at-2
decreases-loop-at-2 l = length l.bytes - l.at

abbrev pub invariant-loop-at-3 : goal.invariant-loop-at-3
invariant-loop-at-3 l = PlainBetween l.bytes 0 l.at × l.at ≤ length l.bytes

abbrev pub decreases-loop-at-3 : goal.decreases-loop-at-3
decreases-loop-at-3 l = length l.bytes - l.at
