use Rattle.std.specs.Prelude.{◌≡◌, ◌≤◌, length}
use Rattle.hx_quota.specs.Inside.{entries_in}
use Rattle.hx_quota.specs.Anew.{chain_at}
use Rattle.hx_quota.proofs.Formed.{IsUnderway}
use Rattle.hx_quota.proofs.climbing.adjust_up.Given as goal

-- the sums of those so far are adjusted
abbrev pub invariant-loop-next : goal.invariant-loop-next
invariant-loop-next l = record {
  underway : IsUnderway l.change.take l.change.give l.fn.places.entries l.places.entries (chain_at (entries_in l.fn.places.entries) l.fn.first) (chain_at (entries_in l.fn.places.entries) l.next);
  rings : l.places.rings ≡ l.fn.places.rings;
  room : l.fn.places.spare ≤ l.places.spare;
}

abbrev pub decreases-loop-next : goal.decreases-loop-next
decreases-loop-next l = length (chain_at (entries_in l.fn.places.entries) l.next)
