use Rattle.std.specs.Prelude.{◌≡◌, ◌<◌, true, length, IfSome, option_and_then}
use Rattle.hx_model.specs.Forest.{parent_of, in_chain}
use Rattle.hx_quota.specs.Counters.{tree_of}
use Rattle.hx_quota.specs.Inside.{entries_in, ordered}
use Rattle.hx_quota.specs.Anew.{name_at, name_from, named, chain_at}
use Rattle.hx_quota.proofs.climbing.top_of.Given as goal

-- the one so far is above the first, and its parent comes next
abbrev pub invariant-loop-next : goal.invariant-loop-next
invariant-loop-next l = record {
  within : l.top < length l.places.entries;
  inside : IfSome l.next (λ i. i < length l.places.entries);
  parent : name_from (entries_in l.places.entries) l.next ≡ option_and_then (parent_of (tree_of (ordered l.places.entries))) (name_at (entries_in l.places.entries) l.top);
  above : in_chain (tree_of (ordered l.places.entries)) (named (entries_in l.places.entries) l.fn.first) (named (entries_in l.places.entries) l.top) ≡ true;
}

abbrev pub decreases-loop-next : goal.decreases-loop-next
decreases-loop-next l = length (chain_at (entries_in l.places.entries) l.next)
