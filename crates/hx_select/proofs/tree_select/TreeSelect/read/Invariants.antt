use Rattle.std.proofs.Common.{◌≡◌, IsUtf8, length, Ok}
use Rattle.hx_select.specs.TreeSelects.{pieces_of, unlimited, with_pieces}
use Rattle.hx_select.proofs.tree_select.TreeSelect.read.Given as goal

-- the pieces so far, and what is left, are what the whole reads
abbrev pub invariant-loop-piece : goal.invariant-loop-piece
invariant-loop-piece l = record { text : IsUtf8 l.left; same : with_pieces (Ok l.select) (pieces_of l.left) ≡ with_pieces (Ok unlimited) (pieces_of l.text) }

abbrev pub decreases-loop-piece : goal.decreases-loop-piece
decreases-loop-piece l = length l.left
