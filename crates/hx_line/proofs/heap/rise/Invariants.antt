use Rattle.std.proofs.Common.{ℕ, ◌≤◌, ◌<◌, ◌+◌, length}
use Rattle.std.specs.List.Sorted.{IsPermutation}
use Rattle.indexmap.specs.IndexMap.{spare}
use Rattle.hx_line.specs.Heap.{KeepsAll, KeepsRest, placed_cmp}
use Rattle.hx_line.proofs.Heaping.{Rising}
use Rattle.hx_line.proofs.Placing.{placed_total}
use Rattle.hx_line.proofs.heap.rise.Given as goal

abbrev pub invariant-loop-at : goal.invariant-loop-at
invariant-loop-at l =
    let old = l.initial.items.entries in
    let now = l.items.entries in
    record {
      within : l.at < length now;
      down : l.at ≤ l.initial.at;
      moved : IsPermutation old now;
      rising : (n : ℕ) → l.initial.at < n → Rising placed_cmp placed_total n old l.initial.at now l.at;
      kept : (n : ℕ) → l.initial.at < n → KeepsAll n old now;
      rest : KeepsRest (l.initial.at + 1) old now;
      room : spare l.initial.items ≤ spare l.items;
    }

abbrev pub decreases-loop-at : goal.decreases-loop-at
decreases-loop-at l = l.at
