-- What a ring keeps of the events of a window, and what it gives up.
use Rattle.std.proofs.Common.{◌≡◌, ℕ, ◌+◌, ◌-◌, ◌≤◌, cond, nat_lt, List, [], ◌∷◌, ◌++◌, length, take, drop, refl, sym, ap, subst, ◌∙◌, arith, length-append, length-drop, true, false, true≢false, Option, Some, None}
use Rattle.std.specs.Prelude.{slice_get, is_some}
use Rattle.std.specs.Option.{option_map_or}
use Rattle.std.proofs.lemmas.Bool.{ltb-false, ltb-true}
use Rattle.circular_buffer.specs.Buffer.{Buffer, buffer, keep_last}
use Rattle.hx_model.specs.declared.event.Event.{Event}
use Rattle.hx_model.specs.Windows.{WindowView, Ascend, last_version, newest}
use Rattle.hx_model.proofs.Lasting.{kept_of, ascend-join, ascend-drop, keep-newest}

-- what a ring gives up as an event comes
abbrev pub given_up : ℕ → List Event → Event → Option Event
given_up most events e = cond (nat_lt (length events) most) None (slice_get (events ++ e ∷ []) 0)

none-lost : (most floor : ℕ) (all : List Event) → length all ≤ most → (kept_of most floor all).floor ≡ floor
none-lost most floor all fits = ap (λ i. last_version floor (take i all)) (let none : length all - most ≡ 0 = omega (arith, fits) in none)

one-lost : (most floor : ℕ) (all : List Event) (e : Event) → length all ≡ most + 1 → slice_get all 0 ≡ Some e → (kept_of most floor all).floor ≡ e.version
one-lost most floor [] e more is = absurd (omega (arith, more))
one-lost most floor (x ∷ all) e more is =
    ap (λ i. last_version floor (take i (x ∷ all))) (let one : length (x ∷ all) - most ≡ 1 = omega (arith, more) in one)
    ∙ ap (λ (o : Option Event). option_map_or (λ f. f.version) o x.version) is

never-empty : (events : List Event) (e : Event) → slice_get (events ++ e ∷ []) 0 ≡ None → ⊥
never-empty [] e is = true≢false (ap is_some is)
never-empty (x ∷ events) e is = true≢false (ap is_some is)

-- where the ring gave up an event, its version is the floor
pub floor-some : (most capacity floor : ℕ) (events : List Event) (e oldest : Event) (out : Option Event) → capacity ≡ most → length events ≤ most
    → out ≡ given_up capacity events e → out ≡ Some oldest → (kept_of most floor (events ++ e ∷ [])).floor ≡ oldest.version
floor-some most capacity floor events e oldest out same fits given is =
    elim (nat_lt (length events) most) as (λ t. nat_lt (length events) most ≡ t → cond t None (slice_get (events ++ e ∷ []) 0) ≡ Some oldest → (kept_of most floor (events ++ e ∷ [])).floor ≡ oldest.version) [
      | true ↦ λ less there. absurd (true≢false (sym (ap is_some there)))
      | false ↦ λ more there. one-lost most floor (events ++ e ∷ []) oldest (omega (arith, fits, ltb-false (length events) most more, length-append events (e ∷ []))) there
    ] refl (sym (given ∙ ap (λ m. given_up m events e) same) ∙ is)

-- where it gave up none, the floor stays
pub floor-none : (most capacity floor : ℕ) (events : List Event) (e : Event) (out : Option Event) → capacity ≡ most
    → out ≡ given_up capacity events e → out ≡ None → (kept_of most floor (events ++ e ∷ [])).floor ≡ floor
floor-none most capacity floor events e out same given is =
    elim (nat_lt (length events) most) as (λ t. nat_lt (length events) most ≡ t → cond t None (slice_get (events ++ e ∷ []) 0) ≡ None → (kept_of most floor (events ++ e ∷ [])).floor ≡ floor) [
      | true ↦ λ less there. none-lost most floor (events ++ e ∷ []) (omega (arith, ltb-true (length events) most less, length-append events (e ∷ [])))
      | false ↦ λ more there. absurd (never-empty events e there)
    ] refl (sym (given ∙ ap (λ m. given_up m events e) same) ∙ is)

-- a window that takes in one event still keeps no more than it may, of versions that ascend from its floor
pub takes-in : (most capacity new_floor : ℕ) (w : WindowView) (e : Event) (ring : Buffer Event) → capacity ≡ most → ring ≡ buffer (keep_last capacity (w.events ++ e ∷ [])) capacity
    → (kept_of most w.floor (w.events ++ e ∷ [])).floor ≡ new_floor → Ascend w.floor w.events → newest w ≤ e.version
    → (ring.capacity ≡ most) × (length ring.items ≤ most) × Ascend new_floor ring.items
takes-in most capacity new_floor w e ring same is at up behind =
    let all = w.events ++ e ∷ [] in
    let there : ring ≡ buffer (drop (length all - most) all) most = is ∙ ap (λ m. buffer (keep_last m all) m) same in (
      ap (λ r. r.capacity) there,
      subst (λ (r : Buffer Event). length r.items ≤ most) (sym there) (omega (arith, length-drop (length all - most) all)),
      subst (λ (r : Buffer Event). Ascend new_floor r.items) (sym there)
          (subst (λ v. Ascend v (drop (length all - most) all)) at (ascend-drop w.floor (length all - most) all (ascend-join w.floor w.events (e ∷ []) up (behind, tt)))),
    )

-- the event is then the newest one
pub newest-in : (most capacity new_floor : ℕ) (w : WindowView) (e : Event) (ring : Buffer Event) → capacity ≡ most → ring ≡ buffer (keep_last capacity (w.events ++ e ∷ [])) capacity
    → (kept_of most w.floor (w.events ++ e ∷ [])).floor ≡ new_floor → last_version new_floor ring.items ≡ e.version
newest-in most capacity new_floor w e ring same is at =
    let all = w.events ++ e ∷ [] in
    ap (λ (r : Buffer Event). last_version new_floor r.items) (is ∙ ap (λ m. buffer (keep_last m all) m) same)
    ∙ ap (λ v. last_version v (drop (length all - most) all)) (sym at)
    ∙ keep-newest most w (e ∷ [])
