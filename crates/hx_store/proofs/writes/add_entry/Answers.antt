use Rattle.std.proofs.Common.{rules}
use Rattle.hx_store.specs.ByName.{turned}
use Rattle.hx_store.proofs.Indexing.{add_index, add_kept, add_there, entry_known}
use Rattle.hx_store.proofs.writes.add_entry.Goals as goal

pub returns-then-has_indexed-clause-there : goal.returns-then-has_indexed-clause-there
returns-then-has_indexed-clause-there c = entry_known c.args.by_name.now c.args.places.now c.args.change.now c.id.result.now c.requires c.id.ensures (search rules)

pub returns-clause-index : goal.returns-clause-index
returns-clause-index c = add_index c.args.by_name.now c.make.new.self c.args.places.now (turned c.id-2.result.now) c.make.result c.make.ensures.places c.make.ensures.made c.requires

pub returns-clause-kept : goal.returns-clause-kept
returns-clause-kept c = add_kept c.args.by_name.now c.make.new.self (turned c.id-2.result.now) c.make.result c.make.ensures.made

pub returns-clause-there : goal.returns-clause-there
returns-clause-there c = add_there c.args.by_name.now c.make.new.self c.args.change.now c.id-2.result.now c.make.result c.id-2.ensures c.make.ensures.made
