use Rattle.std.proofs.Common.{option_copied}
use Rattle.hx_forest.proofs.Reasons.{apart_from}
use Rattle.hx_forest.proofs.Depths.{deeper_base, deeper_below}
use Rattle.hx_forest.proofs.forest.Forest.reaches_deeper.Goals as goal

pub returns-then-base-most : goal.returns-then-base-most
returns-then-base-most c =
    let f = c.args.self.now.nodes in
    let n = c.args.name.now in
    let parent = option_copied c.args.parent in
    deeper_base c.args.most f n parent c.len_from-base.result (apart_from f n parent c.requires.apart) c.requires.there c.len_from-base.ensures c.if-base-most.true

pub returns-else-base-most : goal.returns-else-base-most
returns-else-base-most c =
    let f = c.args.self.now.nodes in
    let n = c.args.name.now in
    let parent = option_copied c.args.parent in
    deeper_below c.args.most f n parent c.len_from-base.result c.goes_deeper.result (apart_from f n parent c.requires.apart) c.requires.there c.len_from-base.ensures c.if-base-most.false c.goes_deeper.ensures
