use Rattle.std.proofs.Common.{◌<◌, ◌+◌, length, refl, arith}
use Rattle.std.proofs.lemmas.List.Sorted.{IsPermutation-swap, IsPermutation-trans}
use Rattle.hx_line.specs.Heap.{placed_cmp}
use Rattle.hx_line.proofs.Heaping.{unplaced, fewer, keeps_fewer, keeps_fewer_itself}
use Rattle.hx_line.proofs.Lining.{last_is}
use Rattle.hx_line.proofs.Placing.{placed_total}
use Rattle.hx_line.proofs.line.unplace.Goals as goal

below : (c : goal.After-settle) → c.args.at < length c.args.items.now.entries
below c = let less = c.if-at-ordered.true in let within = c.requires.within in omega (arith, less, within)

pub returns-then-at-ordered-clause-moved : goal.returns-then-at-ordered-clause-moved
returns-then-at-ordered-clause-moved c =
    IsPermutation-trans c.args.items.now.entries c.swap_indices.new.self.entries c.settle.new.items.entries
    (IsPermutation-swap c.args.items.now.entries c.swap_indices.new.self.entries c.args.at c.args.ordered (below c) c.requires.within c.swap_indices.ensures.entries) c.settle.ensures.moved

pub returns-then-at-ordered-clause-last : goal.returns-then-at-ordered-clause-last
returns-then-at-ordered-clause-last c =
    last_is c.args.ordered c.args.at c.args.items.now.entries c.swap_indices.new.self.entries c.settle.new.items.entries
    c.if-at-ordered.true c.requires.within c.swap_indices.ensures.entries c.settle.ensures.moved c.settle.ensures.rest

pub returns-then-at-ordered-clause-heap : goal.returns-then-at-ordered-clause-heap
returns-then-at-ordered-clause-heap c =
    c.settle.ensures.heap (unplaced placed_cmp placed_total c.args.ordered c.args.items.now.entries c.swap_indices.new.self.entries c.args.at c.if-at-ordered.true c.requires.within c.swap_indices.ensures.entries c.requires.heap)

pub returns-then-at-ordered-clause-kept : goal.returns-then-at-ordered-clause-kept
returns-then-at-ordered-clause-kept c =
    keeps_fewer c.args.ordered c.args.items.now.entries c.swap_indices.new.self.entries c.settle.new.items.entries c.args.at c.if-at-ordered.true c.requires.within c.swap_indices.ensures.entries c.settle.ensures.kept

pub returns-else-at-ordered-clause-heap : goal.returns-else-at-ordered-clause-heap
returns-else-at-ordered-clause-heap c = fewer placed_cmp placed_total (c.args.ordered + 1) c.args.ordered c.args.items.now.entries c.args.items.now.entries (omega arith) (λ k d f. refl) c.requires.heap

pub returns-else-at-ordered-clause-kept : goal.returns-else-at-ordered-clause-kept
returns-else-at-ordered-clause-kept c = keeps_fewer_itself c.args.ordered c.args.items.now.entries
