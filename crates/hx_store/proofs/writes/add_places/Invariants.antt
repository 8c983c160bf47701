use Rattle.std.proofs.Common.{◌≡◌, ◌<◌, ℕ, Some}
use Rattle.std.specs.Prelude.{slice_get}
use Rattle.hx_model.specs.declared.key.Write.{Write}
use Rattle.hx_store.specs.ObjectTable.{IsSound, HasSame, HasPlace, KeepsOthers}
use Rattle.hx_store.specs.ByName.{HasEntry, IsIndex}
use Rattle.hx_store.proofs.writes.add_places.Given as goal

-- the same objects are found, and the writes so far have their places
abbrev pub invariant-loop-change : goal.invariant-loop-change
invariant-loop-change l = record {
  sound : IsSound l.places;
  index : IsIndex l.by_name l.places;
  same : HasSame l.fn.places l.places;
  others : KeepsOthers l.changes l.fn.places l.places;
  there : (i : ℕ) (w : Write) → i < l.change-index → slice_get l.changes i ≡ Some w → HasPlace l.places w;
  awaited : (i : ℕ) (w : Write) → i < l.change-index → slice_get l.changes i ≡ Some w → HasEntry l.by_name w;
}
