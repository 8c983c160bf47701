use Rattle.std.specs.Prelude.{◌≡◌, length}
use Rattle.hx_quota.specs.Counters.{tree_of}
use Rattle.hx_quota.specs.Inside.{entries_in, ordered}
use Rattle.hx_quota.specs.Anew.{named, walk_from}
use Rattle.hx_quota.proofs.climbing.passes.Given as goal

-- what is left of the walk passes the name exactly where the whole does
abbrev pub invariant-loop-left : goal.invariant-loop-left
invariant-loop-left l = walk_from l.left l.places.entries l.next (named (entries_in l.places.entries) l.target) ≡ walk_from (length (tree_of (ordered l.places.entries))) l.places.entries l.fn.first (named (entries_in l.places.entries) l.target)

abbrev pub decreases-loop-left : goal.decreases-loop-left
decreases-loop-left l = l.left
