use Rattle.hx_store.proofs.Waiting.{make_others}
use Rattle.hx_store.proofs.Writing.{make_kept, make_same, make_there, none_there, sound_by}
use Rattle.hx_store.proofs.writes.add_place.Goals as goal

pub returns-then-is_none-clause-there : goal.returns-then-is_none-clause-there
returns-then-is_none-clause-there c = none_there c.args.places.now c.object.result c.args.change.now c.object.ensures c.if-is_none.ensures

pub returns-clause-sound : goal.returns-clause-sound
returns-clause-sound c = sound_by c.args.places.now c.make.new.self c.requires (c.make.ensures.places c.requires.distinct) (make_same c.args.places.now c.make.new.self c.id.result.now c.make.result c.make.ensures.made)

pub returns-clause-same : goal.returns-clause-same
returns-clause-same c = make_same c.args.places.now c.make.new.self c.id.result.now c.make.result c.make.ensures.made

pub returns-clause-kept : goal.returns-clause-kept
returns-clause-kept c = make_kept c.args.places.now c.make.new.self c.id.result.now c.make.result c.make.ensures.made

pub returns-clause-others : goal.returns-clause-others
returns-clause-others c = make_others c.args.places.now c.make.new.self c.args.change.now c.id.result.now c.make.result c.id.ensures c.make.ensures.made

pub returns-clause-there : goal.returns-clause-there
returns-clause-there c = make_there c.args.places.now c.make.new.self c.args.change.now c.id.result.now c.make.result c.id.ensures c.make.ensures.made
