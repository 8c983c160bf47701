use Rattle.std.proofs.Common.{◌∙◌}
use Rattle.hx_store.proofs.InNamespace.{sort_places, sort_same}
use Rattle.hx_store.proofs.object_table.ObjectTable.sort.Goals as goal

pub loop-index-preserved : goal.loop-index-preserved
loop-index-preserved c = record {
  places = λ were. sort_places c.loop-index.self c.loop-index.index c.index-self-index.result c.sort.new.self c.loop-index-test.true (c.loop-index.invariant.places were) c.sort.ensures.kind_table;
  same = λ were id. sort_same c.loop-index.self c.loop-index.index c.index-self-index.result c.sort.new.self c.loop-index-test.true (c.loop-index.invariant.places were) c.sort.ensures.places id ∙ c.loop-index.invariant.same were id;
}
