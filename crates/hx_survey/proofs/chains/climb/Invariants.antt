use Rattle.std.proofs.Common.{◌≡◌, [], length}
use Rattle.hx_model.specs.Forest.{climb}
use Rattle.hx_survey.specs.Inside.{marks, name_at}
use Rattle.hx_survey.proofs.chains.climb.Given as goal

-- what is left to climb leads from the list so far to the whole one, and what the list has is marked
abbrev pub invariant-loop-left : goal.invariant-loop-left
invariant-loop-left l = record {
  climbs : climb l.left l.nodes l.built.items (name_at l.nodes l.at) ≡ climb (length l.nodes) l.nodes [] (name_at l.nodes l.fn.first);
  seen : l.seen.items ≡ marks l.built.items l.nodes;
}

abbrev pub decreases-loop-left : goal.decreases-loop-left
decreases-loop-left l = l.left
