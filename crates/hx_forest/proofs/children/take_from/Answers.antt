use Rattle.std.proofs.Common.{arith}
use Rattle.hx_forest.proofs.Indexing.{still_full}
use Rattle.hx_forest.proofs.children.take_from.Goals as goal

pub returns-else-is_empty-clause-fits : goal.returns-else-is_empty-clause-fits
returns-else-is_empty-clause-fits c = λ k fits full.
    let few = fits (still_full c.args.names.now.names c.remove.new.self.names c.args.child.now c.remove.ensures.members full) in
    omega (arith, few, c.remove.ensures.spare)
