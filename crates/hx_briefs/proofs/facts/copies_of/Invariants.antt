use Rattle.std.proofs.Common.{◌≡◌, ◌++◌, drop}
use Rattle.hx_briefs.proofs.facts.copies_of.Given as goal

-- the copies so far, and the rest of the names
abbrev pub invariant-loop-name : goal.invariant-loop-name
invariant-loop-name l = l.copies.items ++ drop l.name-index l.names ≡ l.initial.copies.items ++ l.names
