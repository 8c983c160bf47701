-- The keys that are held, as a map has them.
--     held_of     the keys of its entries, and how each is held
--     view, seen  how a queue is seen
--     IsQueue     what a queue keeps
use Rattle.std.specs.Prelude.{◌≤◌, ◌-◌, ℕ, List, map, min, length}
use Rattle.hx_model.specs.declared.key.Key.{Key}
use Rattle.hx_queue.specs.Kept.{Held, QueueView, AreApart}
use Rattle.hx_line.specs.Line.{LineView}
use Rattle.hx_queue.specs.declared.slots.Slot.{Slot}

abbrev pub held_by : Key × Slot → Held
held_by e = record { key = e.0; worker = e.1.worker; again = e.1.again }

abbrev pub held_of : List (Key × Slot) → List Held
held_of es = map held_by es

abbrev pub view : List Key → List (Key × ℕ) → List Held → ℕ → QueueView
view keys ranks hs n = record { waiting = keys; ranks = ranks; held = hs; spare = n }

-- the keys that wait with the entries of those that are held, and the room of the map
abbrev pub seen : LineView → List (Key × Slot) → ℕ → QueueView
seen line es n = view line.keys line.ranks (held_of es) (min (line.room - length es) n)

-- there is room for each key that is held to wait again
pub record IsQueue (line : LineView) (es : List (Key × Slot)) : Type 0 where
  pub apart : (n : ℕ) → AreApart (view line.keys line.ranks (held_of es) n)
  pub room : length es ≤ line.room
