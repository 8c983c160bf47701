use Rattle.std.proofs.Common.{◌≡◌, ◌-◌, drop}
use Rattle.hx_object.specs.Pairs.{has_ascending_keys}
use Rattle.hx_object.proofs.pairs.Pairs.has_ascending_keys.Given as goal

-- the pairs from the one before on say whether all are in order
abbrev pub invariant-loop-i : goal.invariant-loop-i
invariant-loop-i l = has_ascending_keys (drop (l.i - 1) l.items) ≡ has_ascending_keys l.items
