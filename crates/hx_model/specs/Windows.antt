-- The window of the latest events.
--     WindowView, opened     the events that are kept, the oldest first, and the floor;  at first
--     most_events            how many are kept at most
--     last_version, newest   the version of the last of some events;  of the newest one that came
--     with_events            a window once these events came
--     Ascend                 the versions of events ascend
--     is_over, events_since  an event has a later version;  the events that have one
--     ComeInParts, KeepNewest, RaiseFloor, LoseNothing      laws
use Rattle.std.specs.Prelude.{◌≡◌, ℕ, ◌-◌, ◌≤◌, Bool, nat_lt, List, [], ◌∷◌, ◌++◌, length, take, drop}
use Rattle.std.specs.List.{filter}
use Rattle.hx_model.specs.declared.event.Event.{Event}

-- the events that are kept, the oldest first, and the version up to which they are gone
pub record WindowView : Type 0 where
  pub events : List Event
  pub floor : ℕ

-- how many events are kept at most
abbrev pub most_events : ℕ
most_events = 8192

-- a window at a version, to which no event came
abbrev pub opened : ℕ → WindowView
opened version = record { events = []; floor = version }

-- the version of the last event, or this one where there is none
abbrev pub last_version : ℕ → List Event → ℕ
last_version version [] = version
last_version version (e ∷ es) = last_version e.version es

-- the version of the newest event that came, or the one at which the window was opened
abbrev pub newest : WindowView → ℕ
newest w = last_version w.floor w.events

-- a window that keeps so many events at most, once these came: it keeps the last ones, and its floor is the version of the newest one that it lost
abbrev pub with_events : ℕ → WindowView → List Event → WindowView
with_events most w es =
    let all = w.events ++ es in
    let lost = length all - most in
    record { events = drop lost all; floor = last_version w.floor (take lost all) }

-- the versions of events ascend from this one on. Equal ones are of one commit
abbrev pub Ascend : ℕ → List Event → Type 0
Ascend version [] = Unit {0}
Ascend version (e ∷ es) = (version ≤ e.version) × Ascend e.version es

-- an event has a later version
abbrev pub is_over : ℕ → Event → Bool
is_over version = λ e. nat_lt version e.version

-- the events that have a later version
abbrev pub events_since : ℕ → List Event → List Event
events_since version events = filter (is_over version) events

-- events that come at once leave what they leave that come in parts
abbrev pub ComeInParts : Type 0
ComeInParts = (most : ℕ) (w : WindowView) (es fs : List Event) →
    with_events most (with_events most w es) fs ≡ with_events most w (es ++ fs)

-- the newest event that came is the last one
abbrev pub KeepNewest : Type 0
KeepNewest = (most : ℕ) (w : WindowView) (es : List Event) → newest (with_events most w es) ≡ last_version (newest w) es

-- a floor never falls
abbrev pub RaiseFloor : Type 0
RaiseFloor = (most : ℕ) (w : WindowView) (es : List Event) → Ascend w.floor (w.events ++ es) → w.floor ≤ (with_events most w es).floor

-- since a version that isn't under the floor, whatever came of later versions is given: of a commit all events or none
abbrev pub LoseNothing : Type 0
LoseNothing = (most : ℕ) (w : WindowView) (es : List Event) (version : ℕ) → Ascend w.floor (w.events ++ es) →
    (with_events most w es).floor ≤ version → events_since version (with_events most w es).events ≡ events_since version (w.events ++ es)
