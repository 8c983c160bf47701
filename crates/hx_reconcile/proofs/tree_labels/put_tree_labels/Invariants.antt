use Rattle.std.proofs.Common.{◌≡◌, ◌≤◌, length, drop}
use Rattle.hx_model.specs.TreeLabels.{tree_labels_from, with_pairs}
use Rattle.hx_reconcile.proofs.tree_labels.put_tree_labels.Given as goal

-- the labels of the members from this one on are put
abbrev pub invariant-loop-far : goal.invariant-loop-far
invariant-loop-far l = record {
  within : l.far ≤ length l.chain;
  put : l.labels ≡ with_pairs (tree_labels_from l.far (drop l.far l.chain)) l.fn.labels;
}

abbrev pub decreases-loop-far : goal.decreases-loop-far
decreases-loop-far l = l.far
