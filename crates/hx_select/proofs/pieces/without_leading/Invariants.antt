use Rattle.std.proofs.Common.{◌≡◌, IsUtf8, length}
use Rattle.hx_select.specs.TreeSelects.{without_leading}
use Rattle.hx_select.proofs.pieces.without_leading.Given as goal

abbrev pub invariant-loop-rest : goal.invariant-loop-rest
invariant-loop-rest l = record { text : IsUtf8 l.left; same : without_leading l.left ≡ without_leading l.text }

abbrev pub decreases-loop-rest : goal.decreases-loop-rest
decreases-loop-rest l = length l.left
