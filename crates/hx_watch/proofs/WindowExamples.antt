-- Windows at their edges: what they keep and give of some events.
use Rattle.std.proofs.Common.{◌≡◌, ℕ, [], ◌∷◌, refl, arith}
use Rattle.hx_object.specs.declared.object.Object.{Object}
use Rattle.hx_model.specs.declared.event.Event.{Event}
use Rattle.hx_model.specs.declared.event.What.TheVariants.{Added}
use Rattle.hx_watch.specs.declared.window.SinceFault.TheVariants.{Expired, NoMemory}
use Rattle.hx_model.specs.Windows.{WindowView, opened, newest, with_events, events_since}
use Rattle.hx_watch.specs.Windows.{IsSinceFault}

-- an object was added by the commit of a version
abbrev added : ℕ → Object → Event
added version x = record { version = version; what = Added; object = x }

module _ (a b c d : Object) where
  -- what doesn't fill a window stays, and so does the floor
  stays : with_events 3 (opened 4) (added 5 a ∷ added 6 b ∷ []) ≡ record { events = added 5 a ∷ added 6 b ∷ []; floor = 4 }
  stays = refl

  -- a full window loses its oldest events, and the version of the last of them is the floor
  loses : with_events 2 (opened 4) (added 5 a ∷ added 6 b ∷ added 6 c ∷ []) ≡ record { events = added 6 b ∷ added 6 c ∷ []; floor = 5 }
  loses = refl

  -- so it is where they come one by one
  loses_later : with_events 2 (with_events 2 (with_events 2 (opened 4) (added 5 a ∷ [])) (added 6 b ∷ [])) (added 6 c ∷ []) ≡ record { events = added 6 b ∷ added 6 c ∷ []; floor = 5 }
  loses_later = refl

  -- a commit of which an event is lost has the floor as its version, and is given no more
  torn : WindowView
  torn = with_events 2 (opened 4) (added 6 a ∷ added 6 b ∷ added 7 c ∷ [])

  torn_floor : torn ≡ record { events = added 6 b ∷ added 7 c ∷ []; floor = 6 }
  unfolding torn
  torn_floor = refl

  torn_since : events_since 6 torn.events ≡ added 7 c ∷ []
  unfolding torn
  torn_since = refl

  torn_expired : IsSinceFault torn 5 (Expired 6)
  unfolding torn
  torn_expired = (refl, omega arith)

  -- since a version: the events of greater ones alone, of which a commit may have several
  since : events_since 5 (added 5 a ∷ added 6 b ∷ added 6 c ∷ added 8 d ∷ []) ≡ added 6 b ∷ added 6 c ∷ added 8 d ∷ []
  since = refl

  since_none : events_since 8 (added 5 a ∷ added 6 b ∷ added 6 c ∷ added 8 d ∷ []) ≡ []
  since_none = refl

  -- at the floor itself only memory can be wanting
  at_floor : IsSinceFault (opened 2) 2 NoMemory
  at_floor = omega arith

  not_expired : IsSinceFault (opened 2) 2 (Expired 2) → ⊥
  not_expired fault = omega (arith, fault.1)

  -- the next event may be of the same commit, or of a later one
  newest_of : newest (with_events 2 (opened 4) (added 5 a ∷ added 6 b ∷ added 6 c ∷ [])) ≡ 6
  newest_of = refl

  newest_at_first : newest (opened 4) ≡ 4
  newest_at_first = refl
