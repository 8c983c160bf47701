use Rattle.std.proofs.Common.{[], refl, true≢false, sym, ◌∙◌}
use Rattle.hx_store.specs.ObjectTable.{AreAwaited}
use Rattle.hx_store.proofs.Waiting.{more_awaited, none_awaited, none_ready}
use Rattle.hx_store.proofs.Writing.{same_objects}
use Rattle.hx_store.proofs.writes.make_places.Goals as goal

pub returns-in-Ok : goal.returns-in-Ok
returns-in-Ok c = record {
  objects = same_objects c.args.places.now c.add_places.new.places c.requires.ready.sound c.add_places.ensures.sound c.add_places.ensures.same;
  index = c.add_places.ensures.index;
  ok = record {
    sound = c.add_places.ensures.sound;
    there = c.in-Ok.ensures.there;
    awaited = more_awaited c.args.places.now c.add_places.new.places [] c.args.changes.now (λ id e. absurd (true≢false (sym e))) c.requires.ready.awaited c.add_places.ensures.others;
  };
  awaited = c.in-Ok.ensures.awaited;
  err = tt;
}

pub returns-in-Err : goal.returns-in-Err
returns-in-Err c =
    let awaited : AreAwaited c.add_places.new.places c.args.changes.now = more_awaited c.args.places.now c.add_places.new.places [] c.args.changes.now (λ id e. absurd (true≢false (sym e))) c.requires.ready.awaited c.add_places.ensures.others in
    record {
      objects = same_objects c.add_places.new.places c.sweep_places.new.places c.add_places.ensures.sound c.sweep_places.ensures.sound c.sweep_places.ensures.same
          ∙ same_objects c.args.places.now c.add_places.new.places c.requires.ready.sound c.add_places.ensures.sound c.add_places.ensures.same;
      index = c.sweep_places.ensures.index;
      ok = tt;
      awaited = tt;
      err = none_ready c.sweep_places.new.places [] refl c.sweep_places.ensures.sound
          (none_awaited c.add_places.new.places c.sweep_places.new.places c.args.changes.now c.args.changes.now (λ id. refl) awaited c.sweep_places.ensures.others c.sweep_places.ensures.swept);
    }
