use Rattle.std.proofs.Common.{◌≡◌, ◌++◌, filter}
use Rattle.std.specs.Vec.Iter.{into_iter_items}
use Rattle.hx_model.specs.Machine.{wants}
use Rattle.hx_briefs.proofs.marking.keep_wanting.Given as goal

-- the keys so far, and those that the rest gives
abbrev pub invariant-loop-key : goal.invariant-loop-key
invariant-loop-key l = l.wanting.items ++ filter (wants l.state.state) (into_iter_items l.key-iterator) ≡ l.initial.wanting.items ++ filter (wants l.state.state) (into_iter_items l.initial.key-iterator)
