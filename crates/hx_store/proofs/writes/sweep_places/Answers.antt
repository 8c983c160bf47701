use Rattle.std.proofs.Common.{◌≡◌, get_or, refl, ap, ◌∙◌, arith}
use Rattle.std.proofs.lemmas.Option.{slice_get_within}
use Rattle.hx_store.specs.Changes.{id_of}
use Rattle.hx_store.specs.ObjectTable.{HasSame, swept}
use Rattle.hx_store.proofs.Indexing.{index_places}
use Rattle.hx_store.proofs.Waiting.{edit_others, more_others, more_swept}
use Rattle.hx_store.proofs.Writing.{same_by, sound_by, swept_found}
use Rattle.hx_store.proofs.writes.sweep_places.Goals as goal

pub loop-change-init : goal.loop-change-init
loop-change-init c = record { sound = c.requires.sound; index = c.requires.index; same = λ id. refl; others = λ id _. refl; swept = λ i w less e. absurd (omega arith) }

pub sweep_entry-requires : goal.sweep_entry-requires
sweep_entry-requires c = index_places c.loop-change.by_name c.loop-change.places c.sweep.new.self (same_by swept c.loop-change.places c.sweep.new.self c.id.result.now c.sweep.ensures.swept swept_found) c.loop-change.invariant.index

same : (c : goal.After-sweep_entry) → HasSame c.loop-change.places c.sweep.new.self
same c = same_by swept c.loop-change.places c.sweep.new.self c.id.result.now c.sweep.ensures.swept swept_found

this_id : (c : goal.After-sweep_entry) → c.id.result.now ≡ id_of (get_or c.args.changes.now c.loop-change.change-index c.change-item.result)
this_id c = c.id.ensures ∙ ap id_of c.change-item.is

pub loop-change-preserved : goal.loop-change-preserved
loop-change-preserved c = record {
  sound = sound_by c.loop-change.places c.sweep.new.self c.loop-change.invariant.sound (c.sweep.ensures.places c.loop-change.invariant.sound.distinct) (same c);
  index = c.sweep_entry.ensures.index;
  same = λ id. same c id ∙ c.loop-change.invariant.same id;
  others = more_others c.args.changes.now c.args.changes.now c.loop-change.change-index c.change-item.result c.args.places.now c.loop-change.places c.sweep.new.self c.loop-change-test.true (λ id. refl) c.loop-change.invariant.others
      (edit_others swept c.loop-change.places c.sweep.new.self (get_or c.args.changes.now c.loop-change.change-index c.change-item.result) c.id.result.now (this_id c) c.sweep.ensures.swept);
  swept = more_swept c.loop-change.places c.sweep.new.self c.args.changes.now c.loop-change.change-index c.change-item.result c.id.result.now (this_id c) c.sweep.ensures.swept c.loop-change.invariant.swept;
}

pub returns-clause-others : goal.returns-clause-others
returns-clause-others c = c.loop-change.invariant.others

pub returns-clause-swept : goal.returns-clause-swept
returns-clause-swept c i w e = c.loop-change.invariant.swept i w (omega (arith, slice_get_within c.args.changes.now i w e, c.loop-change-test.false)) e
