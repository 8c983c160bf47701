use Rattle.std.proofs.Common.{◌+◌, true≢false, sym}
use Rattle.hx_store.proofs.Shown.{distinct_shown, shown_already, shown_next}
use Rattle.hx_store.proofs.name_table.NameTable.show.Goals as goal

pub returns-then-index-self-clause-places : goal.returns-then-index-self-clause-places
returns-then-index-self-clause-places c = λ e at. shown_already c.args.self.now.shown c.args.index c.args.self.now.places.keys e c.len-len.ensures.unique at c.if-index-self.true

pub returns-clause-name_table : goal.returns-clause-name_table
returns-clause-name_table c = λ _. (distinct_shown (c.args.self.now.shown + 1) c.swap_indices.new.self.keys c.swap_indices.ensures.unique, λ t. absurd (true≢false (sym t)))

pub returns-clause-places : goal.returns-clause-places
returns-clause-places c = λ e at.
    shown_next c.args.self.now.shown c.args.index c.args.self.now.places.keys e c.len-len.ensures.unique at c.if-index-self.false c.requires c.swap_indices.new.self.keys c.swap_indices.ensures.keys
    c.swap_indices.ensures.unique c.swap_indices.ensures.reordered.2
