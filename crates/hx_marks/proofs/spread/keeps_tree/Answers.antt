use Rattle.std.proofs.Common.{sym, ◌∙◌}
use Rattle.hx_marks.proofs.SpreadLaw.{tree_stays}
use Rattle.hx_marks.proofs.spread.keeps_tree.Goals as goal

pub returns : goal.returns
returns c holds = tree_stays c.args.writes.now (sym c.are_beside_tree.ensures ∙ holds)
