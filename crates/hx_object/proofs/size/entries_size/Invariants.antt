use Rattle.std.proofs.Common.{◌≡◌, ◌+◌, drop}
use Rattle.std.specs.Prelude.{fold}
use Rattle.hx_object.specs.CappedSizes.{capped, capped_sum, entry_size}
use Rattle.hx_object.proofs.size.entries_size.Given as goal

-- the sum so far, and that of the rest
abbrev pub invariant-loop-entry : goal.invariant-loop-entry
invariant-loop-entry l = fold (λ sum entry. capped (sum + capped (entry_size entry))) l.sum (drop l.entry-index l.entries) ≡ capped_sum (λ entry. capped (entry_size entry)) l.entries
