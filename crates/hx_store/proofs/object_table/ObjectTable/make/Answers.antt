use Rattle.std.proofs.Common.{rules}
use Rattle.hx_store.specs.ObjectTable.{made, unchanged}
use Rattle.hx_store.proofs.Edits.{either_way}
use Rattle.hx_store.proofs.ByKind.{set_edits, set_places}
use Rattle.hx_store.proofs.object_table.ObjectTable.make.Goals as goal

pub returns-clause-places : goal.returns-clause-places
returns-clause-places c = set_places c.args.self.now c.index_of.result c.index-self-index_of.result c.make.new.self c.args.id.now (search rules) c.index_of.ensures.small c.index_of.ensures.value c.make.ensures.kind_table

pub returns-clause-made : goal.returns-clause-made
returns-clause-made c =
    let edits = set_edits c.args.self.now c.index_of.result c.index-self-index_of.result c.make.new.self c.args.id.now (search rules) c.index_of.ensures.small c.index_of.ensures.value in
    either_way c.make.result c.make.ensures.places
    (edits made c.as_str.result.now c.as_str-2.result.now c.as_str.ensures.value c.as_str-2.ensures.value)
    (edits unchanged c.as_str.result.now c.as_str-2.result.now c.as_str.ensures.value c.as_str-2.ensures.value)
