use Rattle.std.proofs.Common.{◌≡◌, ◌≤◌}
use Rattle.hx_select.specs.Inside.{left, reads, with_needs}
use Rattle.hx_select.specs.Selectors.{Wanted}
use Rattle.hx_select.proofs.grammar.joined.Given as goal

-- the requirements so far, and what is left, are what the whole reads
abbrev pub invariant-loop-needs : goal.invariant-loop-needs
invariant-loop-needs l = record {
  same : reads Wanted l.tokens ≡ with_needs l.needs.items (reads Wanted l.left);
  fewer : left l.left ≤ left l.tokens;
}

abbrev pub decreases-loop-needs : goal.decreases-loop-needs
decreases-loop-needs l = left l.left
