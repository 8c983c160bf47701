-- What a window of events gives.
--     window_code            the view of a window, as a pair
--     IsSinceFault           why no events are given
use Rattle.std.specs.Prelude.{◌≡◌, ℕ, ◌<◌, ◌≤◌, List, refl}
use Rattle.std.specs.Coded.{Coded, code_by, coded×, coded_list, coded_ℕ}
use Rattle.hx_model.specs.Windows.{WindowView}
use Rattle.hx_model.specs.contracts.event.Event as event
use Rattle.hx_model.specs.declared.event.Event.{Event}
use Rattle.hx_watch.specs.declared.window.SinceFault.{SinceFault}
use Rattle.hx_watch.specs.declared.window.SinceFault.TheVariants.{Expired, NoMemory}

-- the view of a window, as a pair
abbrev pub window_code : Coded WindowView
window_code = code_by (List Event × ℕ) (coded× (coded_list event.the_row.coded) coded_ℕ) (λ w. (w.events, w.floor)) (λ p. record { events = p.0; floor = p.1 }) (λ _. refl)

-- why a window doesn't give the events since a version: its floor is higher, or memory is wanting
abbrev pub IsSinceFault : WindowView → ℕ → SinceFault → Type 0
IsSinceFault w version (Expired floor) = (floor ≡ w.floor) × (version < w.floor)
IsSinceFault w version NoMemory = w.floor ≤ version
