use Rattle.std.proofs.Common.{◌≡◌, map}
use Rattle.hx_words.proofs.names.parts_of.Given as goal

abbrev pub invariant-loop-part : goal.invariant-loop-part
invariant-loop-part l = l.parts.items ≡ map (λ part. part.now) l.yielded
