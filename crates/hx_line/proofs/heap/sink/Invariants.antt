use Rattle.std.proofs.Common.{◌≤◌, ◌<◌, ◌-◌, length}
use Rattle.std.specs.List.Sorted.{IsPermutation}
use Rattle.indexmap.specs.IndexMap.{spare}
use Rattle.hx_line.specs.Heap.{IsHoled, KeepsAll, KeepsRest, placed_cmp}
use Rattle.hx_line.proofs.heap.sink.Given as goal

abbrev pub invariant-loop-at : goal.invariant-loop-at
invariant-loop-at l =
    let old = l.initial.items.entries in
    let now = l.items.entries in
    record {
      at : l.at < l.ordered;
      within : l.ordered ≤ length now;
      moved : IsPermutation old now;
      holed : IsHoled placed_cmp l.ordered old l.initial.at → IsHoled placed_cmp l.ordered now l.at;
      kept : KeepsAll l.ordered old now;
      rest : KeepsRest l.ordered old now;
      room : spare l.initial.items ≤ spare l.items;
    }

abbrev pub decreases-loop-at : goal.decreases-loop-at
decreases-loop-at l = l.ordered - l.at
