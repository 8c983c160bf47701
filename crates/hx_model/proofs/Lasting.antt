-- What a window keeps of events that ascend, and what it loses.
use Rattle.std.proofs.Common.{◌≡◌, ℕ, ◌+◌, ◌-◌, ◌<◌, ◌≤◌, cond, List, [], ◌∷◌, ◌++◌, length, take, drop, refl, sym, ap, subst, ◌∙◌, arith, append_assoc, length-append, length-drop, le-ltb, lt-ltb, take-add, drop-drop}
use Rattle.std.proofs.lemmas.List.{take-append-drop, take-append-le, drop-append-le}
use Rattle.std.proofs.lemmas.List.Elements.{filter-append}
use Rattle.hx_model.specs.declared.event.Event.{Event}
use Rattle.hx_model.specs.Windows.{WindowView, Ascend, last_version, is_over, events_since, ComeInParts, KeepNewest, RaiseFloor, LoseNothing}

pub last-append : (v : ℕ) (es fs : List Event) → last_version v (es ++ fs) ≡ last_version (last_version v es) fs
last-append v [] fs = refl
last-append v (e ∷ es) fs = last-append e.version es fs

pub ascend-front : (v : ℕ) (es fs : List Event) → Ascend v (es ++ fs) → Ascend v es
ascend-front v [] fs up = tt
ascend-front v (e ∷ es) fs up = (up.0, ascend-front e.version es fs up.1)

pub ascend-rest : (v : ℕ) (es fs : List Event) → Ascend v (es ++ fs) → Ascend (last_version v es) fs
ascend-rest v [] fs up = up
ascend-rest v (e ∷ es) fs up = ascend-rest e.version es fs up.1

pub ascend-join : (v : ℕ) (es fs : List Event) → Ascend v es → Ascend (last_version v es) fs → Ascend v (es ++ fs)
ascend-join v [] fs up more = more
ascend-join v (e ∷ es) fs up more = (up.0, ascend-join e.version es fs up.1 more)

pub last-rises : (v : ℕ) (es : List Event) → Ascend v es → v ≤ last_version v es
last-rises v [] up = omega arith
last-rises v (e ∷ es) up = omega (arith, up.0, last-rises e.version es up.1)

-- of events up to a version none is later
pub none-since : (v bound : ℕ) (es : List Event) → Ascend v es → last_version v es ≤ bound → events_since bound es ≡ []
none-since v bound [] up within = refl
none-since v bound (e ∷ es) up within =
    ap (λ b. cond b (e ∷ events_since bound es) (events_since bound es)) (le-ltb bound e.version (omega (arith, last-rises e.version es up.1, within)))
    ∙ none-since e.version bound es up.1 within

-- of events behind a later one each is later
pub all-since : (v bound : ℕ) (es : List Event) → Ascend v es → bound < v → events_since bound es ≡ es
all-since v bound [] up over = refl
all-since v bound (e ∷ es) up over =
    ap (λ b. cond b (e ∷ events_since bound es) (events_since bound es)) (lt-ltb bound e.version (omega (arith, up.0, over)))
    ∙ ap (λ l. e ∷ l) (all-since e.version bound es up.1 (omega (arith, up.0, over)))

-- what is kept begins where the other events end
pub ascend-drop : (v : ℕ) (k : ℕ) (es : List Event) → Ascend v es → Ascend (last_version v (take k es)) (drop k es)
ascend-drop v k es up = ascend-rest v (take k es) (drop k es) (subst (Ascend v) (sym (take-append-drop k es)) up)

-- so much is lost of events that come in two parts
parts-lost : (most : ℕ) (all more : List Event) → length (all ++ more) - most ≡ (length all - most) + (length (drop (length all - most) all ++ more) - most)
parts-lost most all more = omega (arith, length-append all more, length-append (drop (length all - most) all) more, length-drop (length all - most) all)

-- what a window keeps of all that came to it, and its floor
abbrev pub kept_of : ℕ → ℕ → List Event → WindowView
kept_of most floor all = record { events = drop (length all - most) all; floor = last_version floor (take (length all - most) all) }

kept-in-parts : (most floor : ℕ) (all more : List Event) → kept_of most (kept_of most floor all).floor ((kept_of most floor all).events ++ more) ≡ kept_of most floor (all ++ more)
kept-in-parts most floor all more =
    let k = length all - most in
    let n = length (drop k all ++ more) - most in
    let within : k ≤ length all = omega arith in
    let there : drop k (all ++ more) ≡ drop k all ++ more = drop-append-le k all more within in
    let lost : length (all ++ more) - most ≡ k + n = parts-lost most all more in
    let events : drop n (drop k all ++ more) ≡ drop (length (all ++ more) - most) (all ++ more) =
    ap (drop n) (sym there) ∙ drop-drop n k (all ++ more) ∙ ap (λ i. drop i (all ++ more)) (sym lost) in
    let last : last_version floor (take (length (all ++ more) - most) (all ++ more)) ≡ last_version (last_version floor (take k all)) (take n (drop k all ++ more)) =
    ap (λ i. last_version floor (take i (all ++ more))) lost
    ∙ ap (last_version floor) (take-add k n (all ++ more))
    ∙ last-append floor (take k (all ++ more)) (take n (drop k (all ++ more)))
    ∙ ap (λ l. last_version (last_version floor l) (take n (drop k (all ++ more)))) (take-append-le k all more within)
    ∙ ap (λ l. last_version (last_version floor (take k all)) (take n l)) there in
    let floors = sym last in
    λ i. record { events = events i; floor = floors i }

pub come-in-parts : ComeInParts
come-in-parts most w es fs = kept-in-parts most w.floor (w.events ++ es) fs ∙ ap (kept_of most w.floor) (append_assoc w.events es fs)

pub keep-newest : KeepNewest
keep-newest most w es =
    let all = w.events ++ es in
    let k = length all - most in
    sym (last-append w.floor (take k all) (drop k all)) ∙ ap (last_version w.floor) (take-append-drop k all) ∙ last-append w.floor w.events es

pub raise-floor : RaiseFloor
raise-floor most w es up =
    let all = w.events ++ es in
    let k = length all - most in
    last-rises w.floor (take k all) (ascend-front w.floor (take k all) (drop k all) (subst (Ascend w.floor) (sym (take-append-drop k all)) up))

pub lose-nothing : LoseNothing
lose-nothing most w es version up over =
    let all = w.events ++ es in
    let k = length all - most in
    let split = take-append-drop k all in
    let gone = none-since w.floor version (take k all) (ascend-front w.floor (take k all) (drop k all) (subst (Ascend w.floor) (sym split) up)) over in
    sym (ap (events_since version) (sym split) ∙ filter-append (is_over version) (take k all) (drop k all) ∙ ap (λ l. l ++ events_since version (drop k all)) gone)
