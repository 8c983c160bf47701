use Rattle.std.proofs.Common.{◌≡◌, length, refl, subst, nat_lt, slice_get, arith}
use Rattle.std.specs.Prelude.{IfSome}
use Rattle.hx_order.specs.Ranks.{rank_of}
use Rattle.std.proofs.lemmas.List.Sorted.{IsPermutation-trans}
use Rattle.hx_line.specs.Heap.{placed_cmp}
use Rattle.hx_line.specs.Line.{keys_in}
use Rattle.hx_line.proofs.Heaping.{none_placed}
use Rattle.hx_line.proofs.Placing.{placed_total, first_current, first_early}
use Rattle.hx_line.proofs.line.place_all.Goals as goal

pub returns-then-current-clause-first : goal.returns-then-current-clause-first
returns-then-current-clause-first c k =
    let p = c.place_from-placed in
    first_current c.args.forest.now.nodes (length p.new.items.entries) p.new.items.entries k refl p.ensures.heap (p.ensures.right (c.requires.right c.if-current.true))

pub returns-then-starts_early-clause-first : goal.returns-then-starts_early-clause-first
returns-then-starts_early-clause-first c k =
    let p = c.place_from-placed in
    let early = subst (λ b. IfSome (slice_get (keys_in p.new.items.entries) 0) (λ x. b ≡ nat_lt (rank_of x) 3)) c.if-starts_early.true c.starts_early.ensures.some in
    first_early c.args.forest.now.nodes (length p.new.items.entries) p.new.items.entries k refl p.ensures.heap early

pub place_from-placed-requires-2-clause-heap : goal.place_from-placed-requires-2-clause-heap
place_from-placed-requires-2-clause-heap c = none_placed placed_cmp placed_total c.place_from-placed.new.items.entries

pub returns-clause-keys : goal.returns-clause-keys
returns-clause-keys c =
    IsPermutation-trans (keys_in c.args.items.now.entries) (keys_in c.place_from-placed.new.items.entries) (keys_in c.place_from-placed-2.new.items.entries)
    c.place_from-placed.ensures.keys c.place_from-placed-2.ensures.keys

pub returns-clause-first : goal.returns-clause-first
returns-clause-first c k =
    let p = c.place_from-placed-2 in
    first_current c.args.forest.now.nodes (length p.new.items.entries) p.new.items.entries k refl p.ensures.heap (p.ensures.right (λ i d f g. absurd (omega arith)))
