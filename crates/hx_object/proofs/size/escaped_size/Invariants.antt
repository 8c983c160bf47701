use Rattle.std.proofs.Common.{◌≡◌, ◌+◌, drop}
use Rattle.std.specs.Prelude.{fold}
use Rattle.hx_object.specs.CappedSizes.{capped, capped_sum}
use Rattle.std.specs.Prelude.{length}
use Rattle.json.specs.Print.{escape_byte}
use Rattle.hx_object.proofs.size.escaped_size.Given as goal

-- the sum so far, and that of the rest
abbrev pub invariant-loop-byte : goal.invariant-loop-byte
invariant-loop-byte l = fold (λ sum byte. capped (sum + length (escape_byte byte))) l.sum (drop l.byte-index l.bytes) ≡ capped_sum (λ byte. length (escape_byte byte)) l.bytes
