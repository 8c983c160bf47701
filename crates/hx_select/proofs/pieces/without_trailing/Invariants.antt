use Rattle.std.proofs.Common.{◌≡◌, IsUtf8, length}
use Rattle.hx_select.specs.TreeSelects.{without_trailing}
use Rattle.hx_select.proofs.pieces.without_trailing.Given as goal

abbrev pub invariant-loop-front : goal.invariant-loop-front
invariant-loop-front l = record { text : IsUtf8 l.left; same : without_trailing l.left ≡ without_trailing l.text }

abbrev pub decreases-loop-front : goal.decreases-loop-front
decreases-loop-front l = length l.left
