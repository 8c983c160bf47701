use Rattle.std.proofs.Common.{ap, refl, ◌∙◌}
use Rattle.hx_store.specs.Changes.{id_of, object_of}
use Rattle.hx_store.specs.ObjectTable.{EditsObjectTable, filled}
use Rattle.hx_store.proofs.Indexing.{index_write}
use Rattle.hx_store.proofs.Waiting.{edit_others}
use Rattle.hx_store.proofs.Writing.{fill_edits, objects_write, place_kept, sound_write}
use Rattle.hx_store.proofs.Edits.{filled_keeps}
use Rattle.hx_store.proofs.writes.make_write.Goals as goal

edits : (c : goal.After-fill) → EditsObjectTable (filled (object_of c.args.change.now)) c.args.places.now c.fill.new.self (id_of c.args.change.now)
edits c = fill_edits c.args.places.now c.fill.new.self c.args.change.now c.take-object.result c.id.result.now
    c.take-object.ensures.object (c.id.ensures ∙ ap id_of c.take-object.ensures.rest) c.fill.ensures.filled

pub returns-clause-sound : goal.returns-clause-sound
returns-clause-sound c = sound_write c.args.places.now c.fill.new.self c.args.change.now c.requires.sound (c.fill.ensures.places c.requires.sound.distinct) (edits c)

pub returns-clause-index : goal.returns-clause-index
returns-clause-index c = λ by_name index awaited. index_write by_name c.args.places.now c.fill.new.self c.args.change.now (edits c) index awaited

pub returns-clause-objects : goal.returns-clause-objects
returns-clause-objects c = objects_write c.args.places.now c.fill.new.self c.args.change.now c.requires.sound (returns-clause-sound c) c.requires.there (edits c)

pub returns-clause-kept : goal.returns-clause-kept
returns-clause-kept c = place_kept (filled (object_of c.args.change.now)) c.args.places.now c.fill.new.self (id_of c.args.change.now) (edits c) (filled_keeps (object_of c.args.change.now))

pub returns-clause-others : goal.returns-clause-others
returns-clause-others c = edit_others (filled (object_of c.args.change.now)) c.args.places.now c.fill.new.self c.args.change.now (id_of c.args.change.now) refl (edits c)
