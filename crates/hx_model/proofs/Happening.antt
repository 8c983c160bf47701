-- What the events of a commit keep.
--     recent_after     the window after the writes of a commit
use Rattle.std.proofs.Common.{◌≡◌, ◌≤◌, ℕ, ◌+◌, ◌-◌, Bool, true, not, List, [], ◌∷◌, ◌++◌, length, filter, flat_map, Option, refl, sym, subst, arith}
use Rattle.std.specs.Prelude.{option_map}
use Rattle.std.specs.List.{AllByRecursion}
use Rattle.std.specs.Option.{option_to_list}
use Rattle.hx_object.specs.Faults.{IsLegal}
use Rattle.hx_object.specs.declared.object.Object.{Object}
use Rattle.hx_model.specs.declared.event.Event.{Event}
use Rattle.hx_model.specs.declared.event.What.TheVariants.{Removed}
use Rattle.hx_model.specs.declared.key.Write.{Write}
use Rattle.hx_model.specs.declared.key.Write.TheVariants.{Put, Cut}
use Rattle.hx_model.specs.State.{State, with_version, event_by, events_of, is_put}
use Rattle.hx_model.specs.Valid.{IsValid, IsRecent, IsStored}
use Rattle.hx_model.specs.Windows.{WindowView, Ascend, last_version, newest, most_events, with_events}
use Rattle.hx_model.specs.Writes.{MayWrite}
use Rattle.hx_model.proofs.Lasting.{ascend-join, ascend-drop, keep-newest}
use Rattle.hx_model.proofs.Legality.{legal_with_version}
use Rattle.hx_model.proofs.Lists.{all_more, all_joined, all_dropped, all_filtered}
use Rattle.hx_model.proofs.Storing.{All-found}

-- of a version, with a legal object
abbrev IsOf : ℕ → Event → Type 0
IsOf version e = (e.version ≡ version) × IsLegal e.object

-- each event of a write is of its version
event_is : (s : State) (w : Write) → IsValid s → MayWrite s w → AllByRecursion (IsOf (s.last + 1)) (event_by s.objects (s.last + 1) w)
event_is s (Put x) valid may = ((refl, may.served.legal), tt)
event_is s (Cut id) valid may =
    let y = may.there.0 in
    let legal = (All-found (IsStored s.last) id y s.objects valid.stored may.there.1).served.legal in
    subst (λ (found : Option Object). AllByRecursion (IsOf (s.last + 1)) (option_to_list (option_map (λ (x : Object). record { version = s.last + 1; what = Removed; object = with_version x (s.last + 1) }) found)))
    (sym may.there.1) ((refl, legal_with_version y (s.last + 1) legal), tt)

events_are : (s : State) (ws : List Write) → IsValid s → AllByRecursion (MayWrite s) ws → AllByRecursion (IsOf (s.last + 1)) (flat_map (event_by s.objects (s.last + 1)) ws)
events_are s [] valid may = tt
events_are s (w ∷ ws) valid may =
    all_joined (IsOf (s.last + 1)) (event_by s.objects (s.last + 1) w) (flat_map (event_by s.objects (s.last + 1)) ws) (event_is s w valid may.0) (events_are s ws valid may.1)

-- so are those of a commit
pub all_events_are : (s : State) (ws : List Write) → IsValid s → AllByRecursion (MayWrite s) ws → AllByRecursion (IsOf (s.last + 1)) (events_of s ws)
all_events_are s ws valid may =
    let some : (t : Write → Bool) → AllByRecursion (MayWrite s) (filter t ws) = λ t. all_filtered (MayWrite s) t ws (all_more (MayWrite s) (λ w. t w ≡ true → MayWrite s w) ws (λ w may _. may) may) in
    events_are s (filter is_put ws ++ filter (λ w. not (is_put w)) ws) valid
    (all_joined (MayWrite s) (filter is_put ws) (filter (λ w. not (is_put w)) ws) (some is_put) (some (λ w. not (is_put w))))

-- events of one version ascend from an earlier one, up to it
ascend_to : (v version : ℕ) (es : List Event) → v ≤ version → AllByRecursion (IsOf version) es → Ascend v es
ascend_to v version [] less all = tt
ascend_to v version (e ∷ es) less all = (omega (arith, less, all.0.0), ascend_to e.version version es (omega (arith, all.0.0)) all.1)

last_to : (v version : ℕ) (es : List Event) → v ≤ version → AllByRecursion (IsOf version) es → last_version v es ≤ version
last_to v version [] less all = less
last_to v version (e ∷ es) less all = last_to e.version version es (omega (arith, all.0.0)) all.1

legal_all : (version : ℕ) (es : List Event) → AllByRecursion (IsOf version) es → AllByRecursion (λ (e : Event). IsLegal e.object) es
legal_all version [] all = tt
legal_all version (e ∷ es) all = (all.0.1, legal_all version es all.1)

-- where some events of the next version come
recent_with : (last : ℕ) (w : WindowView) (es : List Event) → IsRecent last w → AllByRecursion (IsOf (last + 1)) es → IsRecent (last + 1) (with_events most_events w es)
recent_with last w es recent all =
    let joined : Ascend w.floor (w.events ++ es) = ascend-join w.floor w.events es recent.ascend (ascend_to (newest w) (last + 1) es (omega (arith, recent.known)) all) in
    record {
      ascend = ascend-drop w.floor (length (w.events ++ es) - most_events) (w.events ++ es) joined;
      known = subst (λ n. n ≤ last + 1) (sym (keep-newest most_events w es)) (last_to (newest w) (last + 1) es (omega (arith, recent.known)) all);
      legal = all_dropped (λ (e : Event). IsLegal e.object) (length (w.events ++ es) - most_events) (w.events ++ es) (all_joined (λ (e : Event). IsLegal e.object) w.events es recent.legal (legal_all (last + 1) es all));
    }

-- the window after the writes of a commit
pub recent_after : (s : State) (ws : List Write) → IsValid s → AllByRecursion (MayWrite s) ws → IsRecent (s.last + 1) (with_events most_events s.window (events_of s ws))
recent_after s ws valid may = recent_with s.last s.window (events_of s ws) valid.recent (all_events_are s ws valid may)
