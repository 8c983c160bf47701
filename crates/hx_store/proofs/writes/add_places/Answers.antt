use Rattle.std.proofs.Common.{[], ◌∷◌, refl, subst, ◌∙◌, arith}
use Rattle.std.proofs.lemmas.Option.{slice_get_within}
use Rattle.hx_store.specs.ObjectTable.{HasPlace, KeepsOthers}
use Rattle.hx_store.specs.ByName.{HasEntry}
use Rattle.hx_store.proofs.Indexing.{index_places}
use Rattle.hx_store.proofs.Waiting.{more_others}
use Rattle.hx_store.proofs.Writing.{more_hold}
use Rattle.hx_store.proofs.writes.add_places.Goals as goal

pub loop-change-init : goal.loop-change-init
loop-change-init c = record { sound = c.requires.sound; index = c.requires.index; same = λ id. refl; others = λ id _. refl; there = λ i w less e. absurd (omega arith); awaited = λ i w less e. absurd (omega arith) }

pub add_place-requires : goal.add_place-requires
add_place-requires c = c.loop-change.invariant.sound

pub add_entry-requires : goal.add_entry-requires
add_entry-requires c = index_places c.loop-change.by_name c.loop-change.places c.add_place.new.places c.add_place.ensures.same c.loop-change.invariant.index

pub returns-in_err-add_place-clause-same : goal.returns-in_err-add_place-clause-same
returns-in_err-add_place-clause-same c id = c.add_place.ensures.same id ∙ c.loop-change.invariant.same id

pub returns-in_err-add_place-clause-others : goal.returns-in_err-add_place-clause-others
returns-in_err-add_place-clause-others c =
    more_others c.args.changes.now c.args.changes.now c.loop-change.change-index c.change-item.result c.args.places.now c.loop-change.places c.add_place.new.places c.loop-change-test.true (λ id. refl) c.loop-change.invariant.others
    (subst (λ w. KeepsOthers (w ∷ []) c.loop-change.places c.add_place.new.places) c.change-item.is c.add_place.ensures.others)

pub returns-in_err-add_place-clause-index : goal.returns-in_err-add_place-clause-index
returns-in_err-add_place-clause-index c = index_places c.loop-change.by_name c.loop-change.places c.add_place.new.places c.add_place.ensures.same c.loop-change.invariant.index

pub returns-in_err-add_entry-clause-same : goal.returns-in_err-add_entry-clause-same
returns-in_err-add_entry-clause-same c id = c.add_place.ensures.same id ∙ c.loop-change.invariant.same id

pub returns-in_err-add_entry-clause-others : goal.returns-in_err-add_entry-clause-others
returns-in_err-add_entry-clause-others c =
    more_others c.args.changes.now c.args.changes.now c.loop-change.change-index c.change-item.result c.args.places.now c.loop-change.places c.add_place.new.places c.loop-change-test.true (λ id. refl) c.loop-change.invariant.others
    (subst (λ w. KeepsOthers (w ∷ []) c.loop-change.places c.add_place.new.places) c.change-item.is c.add_place.ensures.others)

pub returns-in_err-add_entry-clause-index : goal.returns-in_err-add_entry-clause-index
returns-in_err-add_entry-clause-index c = c.add_entry.ensures.index

pub loop-change-preserved : goal.loop-change-preserved
loop-change-preserved c = record {
  sound = c.add_place.ensures.sound;
  index = c.add_entry.ensures.index;
  same = λ id. c.add_place.ensures.same id ∙ c.loop-change.invariant.same id;
  others = more_others c.args.changes.now c.args.changes.now c.loop-change.change-index c.change-item.result c.args.places.now c.loop-change.places c.add_place.new.places c.loop-change-test.true (λ id. refl) c.loop-change.invariant.others
      (subst (λ w. KeepsOthers (w ∷ []) c.loop-change.places c.add_place.new.places) c.change-item.is c.add_place.ensures.others);
  there = more_hold (HasPlace c.loop-change.places) (HasPlace c.add_place.new.places) c.args.changes.now c.loop-change.change-index c.change-item.result c.add_place.ensures.kept c.loop-change.invariant.there
      (subst (HasPlace c.add_place.new.places) c.change-item.is c.in_ok-add_place.ensures.there);
  awaited = more_hold (HasEntry c.loop-change.by_name) (HasEntry c.add_entry.new.by_name) c.args.changes.now c.loop-change.change-index c.change-item.result c.add_entry.ensures.kept c.loop-change.invariant.awaited
      (subst (HasEntry c.add_entry.new.by_name) c.change-item.is c.in_ok-add_entry.ensures.there);
}

pub returns-clause-sound : goal.returns-clause-sound
returns-clause-sound c = c.loop-change.invariant.sound

pub returns-clause-index : goal.returns-clause-index
returns-clause-index c = c.loop-change.invariant.index

pub returns-clause-same : goal.returns-clause-same
returns-clause-same c = c.loop-change.invariant.same

pub returns-clause-there : goal.returns-clause-there
returns-clause-there c i w e = c.loop-change.invariant.there i w (omega (arith, slice_get_within c.args.changes.now i w e, c.loop-change-test.false)) e

pub returns-clause-awaited : goal.returns-clause-awaited
returns-clause-awaited c i w e = c.loop-change.invariant.awaited i w (omega (arith, slice_get_within c.args.changes.now i w e, c.loop-change-test.false)) e

pub returns-clause-others : goal.returns-clause-others
returns-clause-others c = c.loop-change.invariant.others
