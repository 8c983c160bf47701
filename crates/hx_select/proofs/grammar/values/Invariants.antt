use Rattle.std.proofs.Common.{◌≡◌, ◌≤◌, ℕ, Bool, List, []}
use Rattle.hx_select.specs.Inside.{left, reads}
use Rattle.hx_select.specs.Selectors.{Valued}
use Rattle.hx_select.proofs.grammar.values.Given as goal

-- what is read of the set so far, and what is left, are what the whole reads
abbrev pub invariant-loop-values : goal.invariant-loop-values
invariant-loop-values l = record {
  same : (key : List ℕ) (has : Bool) → reads (Valued key has []) l.tokens ≡ reads (Valued key has l.values.items) l.left;
  fewer : left l.left ≤ left l.tokens;
}

abbrev pub decreases-loop-values : goal.decreases-loop-values
decreases-loop-values l = left l.left
