use Rattle.std.proofs.Common.{sym, ◌∙◌}
use Rattle.hx_store.proofs.Shown.{length_shown}
use Rattle.hx_store.proofs.name_table.NameTable.len.Goals as goal

pub returns : goal.returns
returns c = c.len.ensures.len ∙ sym (length_shown c.args.self.now.shown c.args.self.now.places.keys)
