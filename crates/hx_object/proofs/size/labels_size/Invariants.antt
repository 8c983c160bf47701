use Rattle.std.proofs.Common.{◌≡◌, ◌+◌, drop}
use Rattle.std.specs.Prelude.{fold}
use Rattle.hx_object.specs.CappedSizes.{capped, capped_sum}
use Rattle.hx_object.specs.Sizes.{counted, pair_size}
use Rattle.hx_object.proofs.size.labels_size.Given as goal

-- the sum so far, and that of the rest
abbrev pub invariant-loop-label : goal.invariant-loop-label
invariant-loop-label l = fold (λ sum label. capped (sum + capped (pair_size label))) l.sum (counted (drop l.label-index l.labels)) ≡ capped_sum (λ label. capped (pair_size label)) (counted l.labels)
