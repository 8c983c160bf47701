use Rattle.std.proofs.Common.{◌≡◌, ◌≤◌, ℕ, Some, drop}
use Rattle.std.specs.Prelude.{slice_get}
use Rattle.hx_object.specs.declared.object.Id.{Id}
use Rattle.hx_model.specs.State.{after_writes}
use Rattle.hx_model.specs.declared.key.Write.{Write}
use Rattle.hx_store.specs.ObjectTable.{IsSound, HasPlace, KeepsOthers, is_written, objects_at}
use Rattle.hx_store.specs.ByName.{HasEntries, HasEntry, IsIndex}
use Rattle.hx_store.specs.declared.by_name.ByName.{ByName}
use Rattle.hx_store.proofs.writes.make_writes.Given as goal

-- the writes that are left have their places, and make of the objects what all make of the first ones
abbrev pub invariant-loop-change : goal.invariant-loop-change
invariant-loop-change l = record {
  sound : IsSound l.places;
  there : (i : ℕ) (w : Write) → l.change-index ≤ i → slice_get l.changes i ≡ Some w → HasPlace l.places w;
  index : (by_name : ByName) → IsIndex by_name l.fn.places → HasEntries by_name l.fn.changes → IsIndex by_name l.places × ((i : ℕ) (w : Write) → l.change-index ≤ i → slice_get l.changes i ≡ Some w → HasEntry by_name w);
  others : KeepsOthers l.fn.changes l.fn.places l.places;
  ids : (id : Id) → is_written l.changes id ≡ is_written l.fn.changes id;
  objects : after_writes (drop l.change-index l.changes) (objects_at l.places) ≡ after_writes l.fn.changes (objects_at l.fn.places);
}
