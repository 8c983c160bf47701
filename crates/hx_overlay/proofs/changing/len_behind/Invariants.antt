use Rattle.std.proofs.Common.{◌≡◌, ℕ, List, length, take}
use Rattle.hx_overlay.specs.Changes.{changed_by}
use Rattle.hx_overlay.proofs.changing.len_behind.Given as goal

abbrev pub invariant-loop-change : goal.invariant-loop-change
invariant-loop-change l = (file : List ℕ) → l.before ≡ length file → l.len ≡ length (changed_by (take l.change-index l.changes) file)
