use Rattle.std.proofs.Common.{◌≡◌, ◌+◌, ◌<◌, ◌≤◌, ℕ, List, length, slice_index}
use Rattle.hx_overlay.specs.Changes.{HasOf, changed_by}
use Rattle.hx_overlay.proofs.changing.change_range.Given as goal

abbrev pub invariant-loop-i : goal.invariant-loop-i
invariant-loop-i l =
    ((k : ℕ) → l.i ≤ k → slice_index l.range k ≡ slice_index l.fn.range k)
    × ((file : List ℕ) → l.len ≡ length file → HasOf l.len l.at file l.fn.range → (k : ℕ) → k < l.i → slice_index l.range k ≡ slice_index (changed_by l.changes file) (l.at + k))
