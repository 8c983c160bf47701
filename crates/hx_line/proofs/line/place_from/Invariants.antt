use Rattle.std.proofs.Common.{◌≡◌, ◌≤◌, length}
use Rattle.std.specs.List.Sorted.{IsPermutation}
use Rattle.indexmap.specs.IndexMap.{spare}
use Rattle.hx_line.specs.Heap.{AreAll, IsHeap, placed_cmp}
use Rattle.hx_line.specs.Line.{is_at, keys_in}
use Rattle.hx_line.proofs.line.place_from.Given as goal

abbrev pub invariant-loop-at : goal.invariant-loop-at
invariant-loop-at l =
    let old = l.initial.items.entries in
    let now = l.items.entries in
    record {
      long : length now ≡ length old;
      keys : IsPermutation (keys_in old) (keys_in now);
      heap : IsHeap placed_cmp l.at now;
      right : AreAll l.initial.from (is_at l.forest.nodes) old → AreAll l.at (is_at l.forest.nodes) now;
      room : spare l.initial.items ≤ spare l.items;
    }
