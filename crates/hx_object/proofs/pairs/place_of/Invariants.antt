use Rattle.std.proofs.Common.{◌≡◌, ◌+◌, drop, length}
use Rattle.std.specs.Prelude.{take_while}
use Rattle.std.specs.Ordering.{is_gt}
use Rattle.hx_object.specs.Texts.{bytes_cmp}
use Rattle.hx_object.proofs.pairs.place_of.Given as goal

-- the pairs so far, and those of the rest that stand before the key
abbrev pub invariant-loop-i : goal.invariant-loop-i
invariant-loop-i l = l.i + length (take_while (λ pair. is_gt (bytes_cmp l.key pair.0)) (drop l.i l.pairs)) ≡ length (take_while (λ pair. is_gt (bytes_cmp l.key pair.0)) l.pairs)
