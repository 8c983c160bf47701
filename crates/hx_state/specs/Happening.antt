-- What is told of writes.
--     LogView, log_code      the window of the latest events, and the events of the writes that are staged
--     put_event              the event of a write that puts an object
--     removal_of, cut_event  the event of the removal of an object, where it is there;  of a write that takes an object away
use Rattle.std.specs.Prelude.{ℕ, ◌+◌, is_some, List, Option, None, option_map, if◌then◌else◌, refl}
use Rattle.std.specs.Coded.{Coded, code_by, coded×, coded_list}
use Rattle.hx_object.specs.declared.object.Object.{Object}
use Rattle.hx_model.specs.State.{State, object_at, what_of, with_version}
use Rattle.hx_model.specs.Windows.{WindowView}
use Rattle.hx_model.specs.contracts.event.Event as event
use Rattle.hx_model.specs.declared.event.Event.{Event}
use Rattle.hx_model.specs.declared.event.What.TheVariants.{Removed}
use Rattle.hx_model.specs.declared.key.Write.{Write}
use Rattle.hx_store.specs.Changes.{id_of, object_of}
use Rattle.hx_watch.specs.Windows.{window_code}

-- the window of the latest events, and the events of the writes that are staged
pub record LogView : Type 0 where
  pub window : WindowView
  pub staged : List Event

-- the view of a log, as a pair
abbrev pub log_code : Coded LogView
log_code = code_by (WindowView × List Event) (coded× window_code (coded_list event.the_row.coded)) (λ l. (l.window, l.staged)) (λ p. record { window = p.0; staged = p.1 }) (λ _. refl)

-- the event of a write that puts an object
abbrev pub put_event : State → Write → Option Event
put_event s w = option_map (λ x. record { version = s.last + 1; what = what_of (is_some (object_at s.objects (id_of w))); object = x }) (object_of w)

-- the event of the removal of an object, where it is there
abbrev pub removal_of : ℕ → Option Object → Option Event
removal_of version old = option_map (λ y. record { version = version; what = Removed; object = with_version y version }) old

-- the event of a write that takes an object away
abbrev pub cut_event : State → Write → Option Event
cut_event s w = if is_some (object_of w) then None else removal_of (s.last + 1) (object_at s.objects (id_of w))
