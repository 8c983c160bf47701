use Rattle.std.proofs.Common.{◌≡◌, ℕ, List, slice_index, take}
use Rattle.hx_overlay.specs.Changes.{changed_by}
use Rattle.hx_overlay.proofs.changing.byte_behind.Given as goal

abbrev pub invariant-loop-change : goal.invariant-loop-change
invariant-loop-change l = (file : List ℕ) → l.before ≡ slice_index file l.place → l.byte ≡ slice_index (changed_by (take l.change-index l.changes) file) l.place
