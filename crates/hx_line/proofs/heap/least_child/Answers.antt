use Rattle.std.proofs.Common.{◌+◌, ◌*◌, ◌∙◌, arith}
use Rattle.hx_line.specs.Heap.{placed_cmp}
use Rattle.hx_line.proofs.Heaping.{only_child, left_child, right_child}
use Rattle.hx_line.proofs.Placing.{placed_total}
use Rattle.hx_line.proofs.heap.least_child.Goals as goal

pub returns-then-ordered-left-clause-least : goal.returns-then-ordered-left-clause-least
returns-then-ordered-left-clause-least c = let few = c.if-ordered-left.true in only_child placed_cmp placed_total c.args.ordered c.args.items.now.entries c.args.at (2 * c.args.at + 1) (omega arith) (omega (arith, few))

pub returns-then-precedes-clause-least : goal.returns-then-precedes-clause-least
returns-then-precedes-clause-least c = right_child placed_cmp placed_total c.args.ordered c.args.items.now.entries c.args.at (2 * c.args.at + 1) (omega arith) (λ d. c.precedes.ensures d ∙ c.if-precedes.true)

pub returns-clause-least : goal.returns-clause-least
returns-clause-least c = left_child placed_cmp placed_total c.args.ordered c.args.items.now.entries c.args.at (2 * c.args.at + 1) (omega arith) (λ d. c.precedes.ensures d ∙ c.if-precedes.false)
