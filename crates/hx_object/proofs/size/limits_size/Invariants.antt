use Rattle.std.proofs.Common.{◌≡◌, ◌+◌, drop}
use Rattle.std.specs.Prelude.{fold}
use Rattle.hx_object.specs.CappedSizes.{capped, capped_sum, limit_size}
use Rattle.hx_object.proofs.size.limits_size.Given as goal

-- the sum so far, and that of the rest
abbrev pub invariant-loop-limit : goal.invariant-loop-limit
invariant-loop-limit l = fold (λ sum limit. capped (sum + capped (limit_size limit))) l.sum (drop l.limit-index l.limits) ≡ capped_sum (λ limit. capped (limit_size limit)) l.limits
