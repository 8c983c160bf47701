use Rattle.std.proofs.Common.{◌≡◌, take}
use Rattle.hx_model.specs.TreeLabels.{own_labels}
use Rattle.hx_reconcile.proofs.tree_labels.own_labels.Given as goal

-- what is kept of the pairs so far
abbrev pub invariant-loop-pair : goal.invariant-loop-pair
invariant-loop-pair l = l.own.items ≡ own_labels (take l.pair-index l.pair-items)
