-- Where the later ones of events that ascend begin.
use Rattle.std.proofs.Common.{◌≡◌, ℕ, zero, suc, ◌+◌, ◌≤◌, cond, Bool, true, false, true≢false, List, [], ◌∷◌, ◌++◌, take, drop, Some, refl, sym, ap, ◌∙◌, arith, add-one, le-ltb}
use Rattle.std.specs.Prelude.{slice_get, is_some, unwrap_or}
use Rattle.hx_model.specs.declared.event.Event.{Event}
use Rattle.hx_model.specs.Windows.{Ascend, is_over, events_since}
use Rattle.hx_model.proofs.Lasting.{all-since}
use Rattle.std.specs.Option.{option_map_or}
use Rattle.std.proofs.lemmas.Bool.{ltb-false, ltb-true}
use Rattle.std.proofs.lemmas.List.{take-append-drop}
use Rattle.std.proofs.lemmas.List.Elements.{filter-append}

-- the event at a place has a later version, or there is none
abbrev is_later : ℕ → List Event → ℕ → Bool
is_later bound es m = option_map_or (is_over bound) (slice_get es m) true

-- where it hasn't, no version before it is later
reach : (v bound : ℕ) (es : List Event) (m : ℕ) → Ascend v es → is_later bound es m ≡ false → v ≤ bound
reach v bound [] m up not = absurd (true≢false not)
reach v bound (e ∷ es) zero up not = omega (arith, up.0, ltb-false bound e.version not)
reach v bound (e ∷ es) (suc m) up not = omega (arith, up.0, reach e.version bound es m up.1 not)

earlier : (v bound : ℕ) (es : List Event) (m : ℕ) → Ascend v es → is_later bound es m ≡ false → events_since bound (take (suc m) es) ≡ []
earlier v bound [] m up not = refl
earlier v bound (e ∷ es) zero up not = ap (λ b. cond b (e ∷ []) []) not
earlier v bound (e ∷ es) (suc m) up not =
    ap (λ b. cond b (e ∷ events_since bound (take (suc m) es)) (events_since bound (take (suc m) es))) (le-ltb bound e.version (reach e.version bound es m up.1 not))
    ∙ earlier e.version bound es m up.1 not

-- where the event at a place isn't later, none up to it is
pub none-up-to : (v bound : ℕ) (es : List Event) (m : ℕ) → Ascend v es → is_later bound es m ≡ false → events_since bound (take (m + 1) es) ≡ []
none-up-to v bound es m up not = rw (add-one m) (earlier v bound es m up not)

-- where it is later, all from it on are
pub all-from : (v bound : ℕ) (es : List Event) (m : ℕ) → Ascend v es → is_later bound es m ≡ true → events_since bound (drop m es) ≡ drop m es
all-from v bound [] zero up is = refl
all-from v bound [] (suc m) up is = refl
all-from v bound (e ∷ es) zero up is = ap (λ b. cond b (e ∷ events_since bound es) (events_since bound es)) is ∙ ap (λ l. e ∷ l) (all-since e.version bound es up.1 (ltb-true bound e.version is))
all-from v bound (e ∷ es) (suc m) up is = all-from e.version bound es m up.1 is

-- the later ones begin where none before and all behind are later
pub begin-at : (bound : ℕ) (es : List Event) (m : ℕ) → events_since bound (take m es) ≡ [] → events_since bound (drop m es) ≡ drop m es → drop m es ≡ events_since bound es
begin-at bound es m none all =
    sym (ap (events_since bound) (sym (take-append-drop m es)) ∙ filter-append (is_over bound) (take m es) (drop m es) ∙ ap (λ l. l ++ events_since bound (drop m es)) none ∙ all)

-- the events from a place on begin with the one there
next : (es : List Event) (m : ℕ) (e : Event) → slice_get es m ≡ Some e → drop m es ≡ e ∷ drop (suc m) es
next [] m e is = absurd (true≢false (sym (ap is_some is)))
next (x ∷ es) zero e is = ap (λ o. unwrap_or o x ∷ es) is
next (x ∷ es) (suc m) e is = next es m e is

pub next-from : (es : List Event) (m : ℕ) (e : Event) → slice_get es m ≡ Some e → drop m es ≡ e ∷ drop (m + 1) es
next-from es m e is = rw (add-one m) (next es m e is)
