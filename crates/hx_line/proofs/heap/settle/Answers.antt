use Rattle.std.proofs.Common.{◌+◌, arith}
use Rattle.std.proofs.lemmas.List.Sorted.{IsPermutation-trans, length_permutation}
use Rattle.hx_line.specs.Heap.{Rises, placed_cmp}
use Rattle.hx_line.proofs.Heaping.{leaf_least, keeps_all-trans, keeps_rest-trans}
use Rattle.hx_line.proofs.heap.settle.Goals as goal

pub returns-clause-moved : goal.returns-clause-moved
returns-clause-moved c = IsPermutation-trans _ _ _ c.sink-leaf.ensures.moved c.rise.ensures.moved

pub returns-clause-heap : goal.returns-clause-heap
unfolding Rises
returns-clause-heap c h =
    c.rise.ensures.rises c.args.ordered c.sink-leaf.ensures.leaf.0
    (c.sink-leaf.ensures.holed h, leaf_least placed_cmp c.args.ordered c.sink-leaf.new.items.entries c.sink-leaf.result c.sink-leaf.ensures.leaf.1)

pub returns-clause-kept : goal.returns-clause-kept
returns-clause-kept c = keeps_all-trans c.args.ordered c.args.items.now.entries c.sink-leaf.new.items.entries c.rise.new.items.entries c.sink-leaf.ensures.kept (c.rise.ensures.kept c.args.ordered c.sink-leaf.ensures.leaf.0)

pub returns-clause-rest : goal.returns-clause-rest
returns-clause-rest c =
    let below = c.sink-leaf.ensures.leaf.0 in
    keeps_rest-trans c.args.ordered (c.sink-leaf.result + 1) c.args.items.now.entries c.sink-leaf.new.items.entries c.rise.new.items.entries (omega (arith, below)) c.sink-leaf.ensures.rest c.rise.ensures.rest

pub rise-requires : goal.rise-requires
rise-requires c =
    let long = length_permutation c.args.items.now.entries c.sink-leaf.new.items.entries c.sink-leaf.ensures.moved in
    let below = c.sink-leaf.ensures.leaf.0 in
    let within = c.requires.within in
    omega (arith, long, below, within)
