-- What contracts see of a watcher and of a hub, and what they make of events.
--     WatcherView            what a watcher shows
--     with_received          it received these events as well
--     Refuses                it refused an event, and its count rose
--     MemberView, Members    a watcher of a hub, and whether it is set aside;  all watchers, in the order of adding
--     joined, is_there       a watcher that was just added;  it isn't set aside
--     SetAside               of events it received some first ones, and refused the next
--     HasFollowed            a watcher of a hub was told of events
--     HaveFollowed           each of them was
--     FollowNone, FollowInParts, StayWhereSure      laws
use Rattle.std.specs.Prelude.{◌≡◌, ℕ, Bool, true, false, not, List, [], ◌∷◌, ◌++◌, refl}
use Rattle.std.specs.Coded.{Coded, code_by, coded×, coded_bool, coded_list, coded_option, coded_ℕ}
use Rattle.std.specs.List.{AllZip}
use Rattle.std.specs.Option.{option_map}
use Rattle.std.specs.declared.option.Option.{Option}
use Rattle.hx_model.specs.Counts.{Rose}
use Rattle.hx_model.specs.contracts.event.Event as event
use Rattle.hx_model.specs.declared.event.Event.{Event}

-- what a watcher shows
pub record WatcherView : Type 0 where
  -- the events that it received, where it tells them
  pub received : Option (List Event)
  -- whether its count of refusals can rise
  pub may_refuse : Bool
  -- how many events it refused
  pub refusals : ℕ

-- the view of a watcher, as a tuple
abbrev pub watcher_code : Coded WatcherView
watcher_code = code_by (Option (List Event) × ((may : Bool) × ℕ)) (coded× (coded_option (coded_list event.the_row.coded)) (coded× coded_bool coded_ℕ))
    (λ w. (w.received, (w.may_refuse, w.refusals))) (λ p. record { received = p.0; may_refuse = p.1.0; refusals = p.1.1 }) (λ _. refl)

-- it received these events as well
abbrev pub with_received : WatcherView → List Event → WatcherView
with_received w events = record w { received = option_map (λ all. all ++ events) w.received }

-- it refused an event: it may, its count rose, and all else is as it was
pub record Refuses (old new : WatcherView) : Type 0 where
  pub may : old.may_refuse ≡ true
  pub rose : Rose old.refusals new.refusals
  pub rest : new ≡ record old { refusals = new.refusals }

-- a watcher of a hub, and whether it is set aside
pub record MemberView : Type 0 where
  pub shown : WatcherView
  pub gone : Bool

-- the view of a watcher of a hub, as a pair
abbrev pub member_code : Coded MemberView
member_code = code_by (WatcherView × Bool) (coded× watcher_code coded_bool) (λ m. (m.shown, m.gone)) (λ p. record { shown = p.0; gone = p.1 }) (λ _. refl)

-- the watchers of a hub, in the order of adding
abbrev pub Members : Type 0
Members = List MemberView

abbrev pub members_code : Coded Members
members_code = coded_list member_code

-- a watcher that was just added
abbrev pub joined : WatcherView → MemberView
joined w = record { shown = w; gone = false }

-- it isn't set aside
abbrev pub is_there : MemberView → Bool
is_there m = not m.gone

-- of events a watcher received some first ones, refused the next, and got none of the others
pub record SetAside (events : List Event) (old new : WatcherView) : Type 0 where
  pub front : List Event
  pub refused : Event
  pub others : List Event
  pub are : events ≡ front ++ refused ∷ others
  pub refuses : Refuses (with_received old front) new

-- what events make of a watcher, by whether it was set aside before, and whether it is after them: one that was set aside gets none, one that never was gets each once, in order
abbrev pub Follows : Bool → Bool → List Event → WatcherView → WatcherView → Type 0
Follows true gone events old new = (gone ≡ true) × (new ≡ old)
Follows false false events old new = new ≡ with_received old events
Follows false true events old new = SetAside events old new

-- a watcher of a hub was told of events
abbrev pub HasFollowed : List Event → MemberView → MemberView → Type 0
HasFollowed events old new = Follows old.gone new.gone events old.shown new.shown

-- each watcher of a hub was told of events
abbrev pub HaveFollowed : List Event → Members → Members → Type 0
HaveFollowed events old new = AllZip (HasFollowed events) old new

-- without events they are as they were
abbrev pub FollowNone : Type 0
FollowNone = (members : Members) → HaveFollowed [] members members

-- events that come in parts are followed like events that come at once
abbrev pub FollowInParts : Type 0
FollowInParts = (es fs : List Event) (old then new : Members) → HaveFollowed es old then → HaveFollowed fs then new → HaveFollowed (es ++ fs) old new

-- a watcher that can't refuse receives all events, and is never set aside
abbrev pub StayWhereSure : Type 0
StayWhereSure = (events : List Event) (old new : MemberView) → HasFollowed events old new → old.gone ≡ false → old.shown.may_refuse ≡ false →
    new ≡ joined (with_received old.shown events)
