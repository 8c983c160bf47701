use Rattle.std.proofs.Common.{◌+◌, length, ap, ◌∙◌, arith}
use Rattle.hx_line.proofs.Placing.{long_with_depth, placed_heap, placed_keys, placed_right}
use Rattle.hx_line.proofs.line.place.Goals as goal

pub returns-clause-keys : goal.returns-clause-keys
returns-clause-keys c = placed_keys c.args.at c.depth_at-depth.result c.args.items.now.entries c.set_depth.new.items.entries c.rise.new.items.entries c.set_depth.ensures.set c.rise.ensures.moved

pub returns-clause-heap : goal.returns-clause-heap
returns-clause-heap c =
    placed_heap c.args.at c.depth_at-depth.result c.args.items.now.entries c.set_depth.new.items.entries c.rise.new.items.entries
    c.set_depth.ensures.set (c.rise.ensures.rises (c.args.at + 1) (omega arith)) c.requires.heap

pub returns-clause-right : goal.returns-clause-right
returns-clause-right c right =
    placed_right c.args.forest.now.nodes c.args.at c.depth_at-depth.result c.args.items.now.entries c.set_depth.new.items.entries c.rise.new.items.entries
    c.requires.within c.set_depth.ensures.set c.depth_at-depth.ensures (c.rise.ensures.kept (c.args.at + 1) (omega arith)) right

pub rise-requires : goal.rise-requires
rise-requires c =
    let within = c.requires.within in
    let long = ap length c.set_depth.ensures.set ∙ long_with_depth c.args.items.now.entries c.args.at c.depth_at-depth.result in
    omega (arith, long, within)
