use Rattle.std.proofs.Common.{◌≡◌, ◌≢◌, ◌<◌, ℕ, Some, None}
use Rattle.std.specs.Prelude.{slice_get}
use Rattle.hx_model.specs.declared.key.Write.{Write}
use Rattle.hx_store.specs.Changes.{id_of}
use Rattle.hx_store.specs.ObjectTable.{IsSound, HasSame, KeepsOthers, place_at}
use Rattle.hx_store.specs.ByName.{IsIndex}
use Rattle.hx_store.proofs.writes.sweep_places.Given as goal

-- the same objects are found, and no place of the writes so far is empty
abbrev pub invariant-loop-change : goal.invariant-loop-change
invariant-loop-change l = record {
  sound : IsSound l.places;
  index : IsIndex l.by_name l.places;
  same : HasSame l.fn.places l.places;
  others : KeepsOthers l.changes l.fn.places l.places;
  swept : (i : ℕ) (w : Write) → i < l.change-index → slice_get l.changes i ≡ Some w → place_at l.places (id_of w) ≢ Some None;
}
