use Rattle.std.proofs.Common.{◌≡◌, ◌+◌, drop}
use Rattle.std.specs.Prelude.{fold}
use Rattle.hx_object.specs.CappedSizes.{capped, capped_sum}
use Rattle.hx_object.specs.Sizes.{pair_size}
use Rattle.hx_object.proofs.size.pairs_size.Given as goal

-- the sum so far, and that of the rest
abbrev pub invariant-loop-pair : goal.invariant-loop-pair
invariant-loop-pair l = fold (λ sum pair. capped (sum + capped (pair_size pair))) l.sum (drop l.pair-index l.pairs) ≡ capped_sum (λ pair. capped (pair_size pair)) l.pairs
