use Rattle.std.proofs.Common.{◌≡◌, take}
use Rattle.hx_model.specs.Propagation.{kept_annotations}
use Rattle.hx_reconcile.proofs.copies.kept_annotations.Given as goal

-- what is kept of the pairs so far
abbrev pub invariant-loop-pair : goal.invariant-loop-pair
invariant-loop-pair l = l.kept.items ≡ kept_annotations (take l.pair-index l.pair-items)
