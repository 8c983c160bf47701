-- What every state of a run keeps.
--     IsStored last x     an object that may be stored, with a version that was given out
--     AreHoused objects   each object lies in a namespace that is there
--     IsRecent last w     the events of a window: their versions ascend up to the last one, and their objects are legal
--     IsValid s           the objects are in order, each is stored and lies in a namespace that is there, the last version isn't past the greatest, and the window's events are of this run
use Rattle.std.specs.Prelude.{◌≡◌, ◌≤◌, ℕ, true}
use Rattle.std.specs.List.{AllByRecursion}
use Rattle.hx_object.specs.Faults.{IsLegal}
use Rattle.hx_object.specs.declared.object.Object.{Object}
use Rattle.hx_model.specs.declared.event.Event.{Event}
use Rattle.hx_model.specs.Limits.{greatest_version}
use Rattle.hx_model.specs.Serving.{IsServed}
use Rattle.hx_model.specs.State.{State, Objects, ascends, has_home}
use Rattle.hx_model.specs.Windows.{WindowView, Ascend, newest}

-- an object that is stored is served, and has a version that was given out
pub record IsStored (last : ℕ) (x : Object) : Type 0 where
  pub served : IsServed x
  pub given : 1 ≤ x.version
  pub known : x.version ≤ last

-- each object lies in a namespace that is there, if its kind lies in any
abbrev pub AreHoused : Objects → Type 0
AreHoused objects = AllByRecursion (λ (x : Object). has_home objects x.id ≡ true) objects

-- the versions of the events ascend from the floor up to the last version, and their objects are legal
pub record IsRecent (last : ℕ) (w : WindowView) : Type 0 where
  pub ascend : Ascend w.floor w.events
  pub known : newest w ≤ last
  pub legal : AllByRecursion (λ (e : Event). IsLegal e.object) w.events

pub record IsValid (s : State) : Type 0 where
  pub in_order : ascends s.objects ≡ true
  pub stored : AllByRecursion (IsStored s.last) s.objects
  pub housed : AreHoused s.objects
  pub fits : s.last ≤ greatest_version
  pub recent : IsRecent s.last s.window
