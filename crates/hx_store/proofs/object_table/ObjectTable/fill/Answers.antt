use Rattle.std.proofs.Common.{rules}
use Rattle.hx_store.specs.ObjectTable.{filled}
use Rattle.hx_store.proofs.ByKind.{set_edits, set_places}
use Rattle.hx_store.proofs.object_table.ObjectTable.fill.Goals as goal

pub returns-clause-places : goal.returns-clause-places
returns-clause-places c = set_places c.args.self.now c.index_of.result c.index-self-index_of.result c.fill.new.self c.args.id.now (search rules) c.index_of.ensures.small c.index_of.ensures.value c.fill.ensures.kind_table

pub returns-clause-filled : goal.returns-clause-filled
returns-clause-filled c = set_edits c.args.self.now c.index_of.result c.index-self-index_of.result c.fill.new.self c.args.id.now (search rules) c.index_of.ensures.small c.index_of.ensures.value
    (filled c.args.object) c.as_str.result.now c.as_str-2.result.now c.as_str.ensures.value c.as_str-2.ensures.value c.fill.ensures.places
