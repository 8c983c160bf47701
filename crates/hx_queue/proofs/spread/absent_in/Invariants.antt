use Rattle.std.proofs.Common.{◌≡◌, ◌+◌, not, filter, drop, length}
use Rattle.std.specs.Prelude.{flat_map}
use Rattle.hx_model.specs.Keys.{is_among}
use Rattle.hx_queue.specs.Spread.{place_keys}
use Rattle.hx_queue.proofs.spread.absent_in.Given as goal

-- what was counted, and what is left, are all
abbrev pub invariant-loop-id : goal.invariant-loop-id
invariant-loop-id l =
    l.count + length (filter (λ k. not (is_among k l.queue.waiting)) (flat_map (place_keys l.names) (drop l.id-index l.ids)))
    ≡ length (filter (λ k. not (is_among k l.queue.waiting)) (flat_map (place_keys l.names) l.ids))
