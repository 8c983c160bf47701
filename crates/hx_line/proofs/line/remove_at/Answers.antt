use Rattle.hx_line.proofs.Lining.{removed}
use Rattle.hx_line.proofs.line.remove_at.Goals as goal

pub returns-clause-out : goal.returns-clause-out
returns-clause-out c = removed c.swap_remove_index-taken.result c.args.items.now.entries c.swap_remove_index-taken.new.self.entries c.args.at c.requires c.swap_remove_index-taken.ensures.entry c.swap_remove_index-taken.ensures.entries
