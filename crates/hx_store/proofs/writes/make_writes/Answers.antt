use Rattle.std.proofs.Common.{◌≤◌, ◌<◌, length, refl, sym, ap, ◌∙◌, arith}
use Rattle.std.proofs.lemmas.Option.{slice_get-get_or}
use Rattle.std.proofs.Math.ListN.{drop_of_length-le}
use Rattle.hx_model.specs.State.{after_writes}
use Rattle.hx_store.specs.ObjectTable.{HasPlace, objects_at}
use Rattle.hx_store.specs.ByName.{HasEntry}
use Rattle.hx_store.proofs.Waiting.{more_others, same_written}
use Rattle.hx_store.proofs.Writing.{left_hold, left_writes}
use Rattle.hx_store.proofs.writes.make_writes.Goals as goal

pub loop-change-init : goal.loop-change-init
loop-change-init c = record { sound = c.requires.sound; there = λ i w _ e. c.requires.there i w e; index = λ by_name index awaited. (index, λ i w _ e. awaited i w e); others = λ id _. refl; ids = λ id. refl; objects = refl }

pub make_write-requires-clause-sound : goal.make_write-requires-clause-sound
make_write-requires-clause-sound c = c.loop-change.invariant.sound

pub make_write-requires-clause-there : goal.make_write-requires-clause-there
make_write-requires-clause-there c =
    let within : c.loop-change.change-index < length c.loop-change.changes = omega arith in
    c.loop-change.invariant.there c.loop-change.change-index _ (omega arith) (slice_get-get_or c.loop-change.changes c.loop-change.change-index c.change-item.result within)

pub loop-change-preserved : goal.loop-change-preserved
loop-change-preserved c =
    let within : c.loop-change.change-index < length c.loop-change.changes = omega arith in
    record {
      sound = c.make_write.ensures.sound;
      index = λ by_name index awaited.
          let so_far = c.loop-change.invariant.index by_name index awaited in
          let this = so_far.1 c.loop-change.change-index _ (omega arith) (slice_get-get_or c.loop-change.changes c.loop-change.change-index c.change-item.result within) in
          (c.make_write.ensures.index by_name so_far.0 this, left_hold (HasEntry by_name) (HasEntry by_name) c.loop-change.changes c.loop-change.change-index c.make_write.new.change (λ w entry. entry) so_far.1);
      there = left_hold (HasPlace c.loop-change.places) (HasPlace c.make_write.new.places) c.loop-change.changes c.loop-change.change-index c.make_write.new.change c.make_write.ensures.kept c.loop-change.invariant.there;
      others = more_others c.args.changes.now c.loop-change.changes c.loop-change.change-index c.change-item.result c.args.places.now c.loop-change.places c.make_write.new.places within c.loop-change.invariant.ids c.loop-change.invariant.others c.make_write.ensures.others;
      ids = λ id. same_written c.loop-change.changes c.loop-change.change-index c.change-item.result c.make_write.new.change id c.make_write.ensures.id ∙ c.loop-change.invariant.ids id;
      objects = left_writes c.loop-change.places c.make_write.new.places c.loop-change.changes c.loop-change.change-index c.change-item.result c.make_write.new.change within c.make_write.ensures.objects ∙ c.loop-change.invariant.objects;
    }

pub returns-clause-sound : goal.returns-clause-sound
returns-clause-sound c = c.loop-change.invariant.sound

pub returns-clause-index : goal.returns-clause-index
returns-clause-index c = λ by_name index awaited. (c.loop-change.invariant.index by_name index awaited).0

pub returns-clause-objects : goal.returns-clause-objects
returns-clause-objects c =
    let past : length c.loop-change.changes ≤ c.loop-change.change-index = omega arith in
    ap (λ rest. after_writes rest (objects_at c.loop-change.places)) (sym (drop_of_length-le c.loop-change.changes past)) ∙ c.loop-change.invariant.objects

pub returns-clause-others : goal.returns-clause-others
returns-clause-others c = c.loop-change.invariant.others

pub returns-clause-ids : goal.returns-clause-ids
returns-clause-ids c = c.loop-change.invariant.ids
