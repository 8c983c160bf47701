-- What is told of writes.
--     carried          a loop that adds what it has of the next item
--     all_told         the events of puts, and then those of removals
--     whole_after      a window keeps no more than it may
--     recent_opened    a window to which no event came
--     ascend_next      the events of writes come behind those of the window
use Rattle.std.proofs.Common.{◌≡◌, ◌<◌, ◌≤◌, ◌+◌, ℕ, not, List, [], ◌∷◌, ◌++◌, length, get_or, drop, filter, refl, sym, ap, ◌∙◌, arith}
use Rattle.std.specs.Prelude.{flat_map}
use Rattle.std.specs.List.{AllByRecursion}
use Rattle.std.specs.Option.{option_to_list}
use Rattle.std.proofs.lemmas.Grind.{flat_map-append}
use Rattle.std.proofs.lemmas.List.{append_assoc, append-nil, at_drop_more}
use Rattle.hx_object.specs.Faults.{IsLegal}
use Rattle.hx_model.specs.State.{State, event_by, events_of, is_put}
use Rattle.hx_model.specs.Valid.{IsRecent, IsValid}
use Rattle.hx_model.specs.Windows.{WindowView, Ascend, most_events, newest, opened, with_events}
use Rattle.hx_model.specs.Writes.{MayWriteAll}
use Rattle.hx_model.specs.declared.event.Event.{Event}
use Rattle.hx_model.specs.declared.key.Write.{Write}
use Rattle.hx_model.specs.declared.key.Write.TheVariants.{Put, Cut}
use Rattle.hx_model.proofs.Happening.{all_events_are}
use Rattle.hx_model.proofs.Lasting.{come-in-parts}
use Rattle.hx_state.specs.Happening.{put_event, cut_event}

-- ---- loops

-- a loop adds what it has of the next item: with the rest it is the same
pub carried : {A B : Type 0} (f : A → List B) (xs : List A) (i : ℕ) (x : A) (new mid start : List B) → i < length xs → x ≡ get_or xs i x → new ≡ mid ++ f x → mid ++ flat_map f (drop i xs) ≡ start → new ++ flat_map f (drop (i + 1) xs) ≡ start
carried f xs i x new mid start within is added before =
    let rest = flat_map f (drop (i + 1) xs) in
    ap (λ ys. ys ++ rest) added
    ∙ append_assoc mid (f x) rest
    ∙ ap (λ ys. mid ++ ys) (sym (at_drop_more (flat_map f) xs i x within ∙ ap (λ y. f y ++ rest) (sym is)))
    ∙ before

-- ---- the events of writes

puts_told : (s : State) (ws : List Write) → flat_map (event_by s.objects (s.last + 1)) (filter is_put ws) ≡ flat_map (λ w. option_to_list (put_event s w)) ws
puts_told s [] = refl
puts_told s (Put x ∷ ws) = ap (λ es. option_to_list (put_event s (Put x)) ++ es) (puts_told s ws)
puts_told s (Cut id ∷ ws) = puts_told s ws

cuts_told : (s : State) (ws : List Write) → flat_map (event_by s.objects (s.last + 1)) (filter (λ w. not (is_put w)) ws) ≡ flat_map (λ w. option_to_list (cut_event s w)) ws
cuts_told s [] = refl
cuts_told s (Put x ∷ ws) = cuts_told s ws
cuts_told s (Cut id ∷ ws) = ap (λ es. option_to_list (cut_event s (Cut id)) ++ es) (cuts_told s ws)

-- the events of puts, and then those of removals
pub all_told : (s : State) (ws : List Write) → flat_map (λ w. option_to_list (put_event s w)) ws ++ flat_map (λ w. option_to_list (cut_event s w)) ws ≡ events_of s ws
all_told s ws =
    sym (flat_map-append (event_by s.objects (s.last + 1)) (filter is_put ws) (filter (λ w. not (is_put w)) ws) ∙ (λ i. puts_told s ws i ++ cuts_told s ws i))

-- ---- the window

-- a window keeps no more than it may
pub whole_after : (w : WindowView) (es : List Event) → with_events most_events (with_events most_events w es) [] ≡ with_events most_events w es
whole_after w es = come-in-parts most_events w es [] ∙ ap (with_events most_events w) (append-nil es)

-- a window to which no event came
pub recent_opened : (last : ℕ) → IsRecent last (opened last)
recent_opened last = record { ascend = tt; known = omega arith; legal = tt }

ascend_to : (v version : ℕ) (es : List Event) → v ≤ version → AllByRecursion (λ (e : Event). (e.version ≡ version) × IsLegal e.object) es → Ascend v es
ascend_to v version [] less all = tt
ascend_to v version (e ∷ es) less all = (omega (arith, less, all.0.0), ascend_to e.version version es (omega (arith, all.0.0)) all.1)

-- the events of writes come behind those of the window
pub ascend_next : (s : State) (ws : List Write) → IsValid s → MayWriteAll s ws → Ascend (newest s.window) (events_of s ws)
ascend_next s ws valid may = ascend_to (newest s.window) (s.last + 1) (events_of s ws) (omega (arith, valid.recent.known)) (all_events_are s ws valid may.each)
