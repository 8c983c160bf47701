-- What entries make happen, and in which order.
--     events_at, events_in     the events of an entry;  of entries, one after the other
--     objects_told             the objects that events tell
--     RequestsTellInOrder      a request's events stand in order of identities, one for each object
--     TurnsTellOnce            a worker's turn has one event at most
use Rattle.std.specs.Prelude.{◌≡◌, ◌≤◌, true, List, [], ◌∷◌, ◌++◌, length, map, Option}
use Rattle.hx_model.specs.declared.ask.Ask.{Ask}
use Rattle.hx_model.specs.declared.event.Event.{Event}
use Rattle.hx_model.specs.declared.key.Finish.{Finish}
use Rattle.hx_model.specs.declared.key.Finish.TheVariants as ending
use Rattle.hx_model.specs.declared.key.Write.{Write}
use Rattle.hx_model.specs.Hands.{Hand, hand_of, writes_for}
use Rattle.hx_model.specs.Machine.{World, Entry, Request, Finished, History, world_after, writes_by, writes_made}
use Rattle.hx_model.specs.State.{State, Objects, ascends, events_of}
use Rattle.hx_model.specs.Valid.{IsValid}

-- ---- events of entries

-- the events of a worker's turn, by what it held and how it ended
abbrev pub events_of_end : World → Option Hand → Finish → List Event
events_of_end w hand (ending.Written version) = events_of w.state (writes_by w.state hand)
events_of_end w hand _ = []

-- the events of an entry
abbrev pub events_at : World → Entry → List Event
events_at w (Request ask answer) = events_of w.state (writes_made w.state ask)
events_at w (Finished worker end) = events_of_end w (hand_of worker w.hands) end
events_at w _ = []

-- the events of entries, one after the other
abbrev pub events_in : World → History → List Event
events_in w [] = []
events_in w (entry ∷ entries) = events_at w entry ++ events_in (world_after w entry) entries

-- ---- laws

-- the objects that events tell
abbrev pub objects_told : List Event → Objects
objects_told events = map (λ (e : Event). e.object) events

-- of a request each object is told once, in order of identities
abbrev pub RequestsTellInOrder : Type 0
RequestsTellInOrder = (s : State) (ask : Ask) → IsValid s → ascends (objects_told (events_of s (writes_made s ask))) ≡ true

-- of a worker's turn one object is told at most
abbrev pub TurnsTellOnce : Type 0
TurnsTellOnce = (s : State) (write : Option Write) → length (events_of s (writes_for s write)) ≤ 1
