use Rattle.std.proofs.Common.{◌≡◌, ◌==◌, length}
use Rattle.hx_survey.specs.Inside.{walk_at}
use Rattle.hx_survey.proofs.walks.passes.Given as goal

-- what is left of the walk tells what the whole one does
abbrev pub invariant-loop-left : goal.invariant-loop-left
invariant-loop-left l = walk_at (λ place. place == l.sought) l.left l.ups l.at ≡ walk_at (λ place. place == l.sought) (length l.ups) l.ups l.fn.first

abbrev pub decreases-loop-left : goal.decreases-loop-left
decreases-loop-left l = l.left
