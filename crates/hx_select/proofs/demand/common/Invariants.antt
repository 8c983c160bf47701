use Rattle.std.proofs.Common.{◌≡◌, ◌||◌, ◌&&◌, ℕ, List, drop}
use Rattle.hx_select.specs.Matching.{is_allowed}
use Rattle.hx_select.specs.Selectors.{is_among}
use Rattle.hx_select.proofs.demand.common.Given as goal

-- the values so far, and the allowed ones of what is left, are all that are allowed
abbrev pub invariant-loop-value : goal.invariant-loop-value
invariant-loop-value l = (q : List ℕ) → (is_among q l.texts || (is_allowed l.allowed q && is_among q (drop l.value-index l.values))) ≡ (is_allowed l.allowed q && is_among q l.values)
