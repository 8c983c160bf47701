use Rattle.std.proofs.Common.{rules}
use Rattle.hx_store.specs.ObjectTable.{swept}
use Rattle.hx_store.specs.ByName.{turned_places, turned}
use Rattle.hx_store.proofs.ByKind.{set_edits, set_places}
use Rattle.hx_store.proofs.by_name.ByName.sweep.Goals as goal

pub returns-clause-places : goal.returns-clause-places
returns-clause-places c = set_places (turned_places c.args.self.now) c.index_of.result c.index-self-index_of.result c.sweep.new.self (turned c.args.id.now) (search rules) c.index_of.ensures.small c.index_of.ensures.value c.sweep.ensures.kind_table

pub returns-clause-swept : goal.returns-clause-swept
returns-clause-swept c = set_edits (turned_places c.args.self.now) c.index_of.result c.index-self-index_of.result c.sweep.new.self (turned c.args.id.now) (search rules) c.index_of.ensures.small c.index_of.ensures.value
    swept c.as_str.result.now c.as_str-2.result.now c.as_str.ensures.value c.as_str-2.ensures.value c.sweep.ensures.places
