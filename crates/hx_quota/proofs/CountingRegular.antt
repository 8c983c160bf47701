-- Entries whose names are in order, and of which each has a sum of each resource.
--     in_order                         their names ascend
--     regular_changed                  after a change
--     regular_all                      after changes, whichever
use Rattle.std.proofs.Common.{◌≡◌, ℕ, ◌+◌, ◌-◌, Bool, true, false, cond, Option, Some, None, option_map, List, [], ◌∷◌, length, refl, sym, ap, subst, ◌∙◌}
use Rattle.std.specs.Prelude.{slice_index, slice_set}
use Rattle.std.specs.Str.{bytes_eq}
use Rattle.std.proofs.lemmas.List.{length-set}
use Rattle.std.proofs.lemmas.Option.{none-some, same_Some}
use Rattle.hx_forest.specs.Named.{with_changed}
use Rattle.hx_forest.proofs.Named.{ascends, same_values, lookup-values, ascends-values, lookup-with_value, lookup-without_value, lookup-with_changed, ascends-with_value, ascends-without_value, ascends-with_changed}
use Rattle.hx_quota.specs.declared.change.CounterChange.{CounterChange}
use Rattle.hx_quota.specs.declared.change.CounterChange.TheVariants.{Add, Move, Shift, Remove}
use Rattle.hx_quota.specs.declared.entry.Delta.{Delta}
use Rattle.hx_quota.specs.Counters.{Entry}
use Rattle.hx_quota.specs.Counters.{Entries, entry_of, place_of, with_entry, new_entry, without_entry, with_shifted, shifted}
use Rattle.hx_quota.specs.Counting.{AreRegular, changed, changed_all}
use Rattle.hx_quota.specs.Inside.{entries_from}
use Rattle.hx_quota.proofs.Deltas.{shift_in}

-- each entry has so many sums
abbrev AreLong : Entries → Type 0
AreLong es = (n : List ℕ) (e : Entry) → entry_of es n ≡ Some e → length e.own ≡ 15

pub in_order : (es : Entries) → AreRegular es → ascends es ≡ true
in_order es regular = subst (λ (xs : Entries). ascends xs ≡ true) regular.ordered (ascends-values es)

regular_by : (es : Entries) → ascends es ≡ true → AreLong es → AreRegular es
regular_by es up long = record { ordered = same_values (entries_from es) es (ascends-values es) up (lookup-values es); long = long }

-- ---- each change

regular_added : (n : List ℕ) (es : Entries) → AreRegular es → AreRegular (with_entry n new_entry es)
regular_added n es regular = regular_by (with_entry n new_entry es) (ascends-with_value n new_entry es (in_order es regular)) (λ q e there. at q e (bytes_eq q n) (sym (lookup-with_value n new_entry es q) ∙ there))
  where
    at : (q : List ℕ) (e : Entry) (b : Bool) → cond b (Some new_entry) (entry_of es q) ≡ Some e → length e.own ≡ 15
    at q e true is = ap (λ (x : Entry). length x.own) (sym (same_Some new_entry e is))
    at q e false is = regular.long q e is

regular_removed : (n : List ℕ) (es : Entries) → AreRegular es → AreRegular (without_entry n es)
regular_removed n es regular = regular_by (without_entry n es) (ascends-without_value n es (in_order es regular)) (λ q e there. at q e (bytes_eq q n) (sym (lookup-without_value n es q) ∙ there))
  where
    at : (q : List ℕ) (e : Entry) (b : Bool) → cond b None (entry_of es q) ≡ Some e → length e.own ≡ 15
    at q e true is = absurd (none-some e is)
    at q e false is = regular.long q e is

regular_with : (n : List ℕ) (change : Entry → Entry) (es : Entries) → ((e : Entry) → length (change e).own ≡ length e.own) → AreRegular es → AreRegular (with_changed n change es)
regular_with n change es same regular =
    regular_by (with_changed n change es) (ascends-with_changed n change es ∙ in_order es regular) (λ q e there. at q e (bytes_eq n q) (entry_of es q) refl (sym (lookup-with_changed n change es q) ∙ there))
  where
    at : (q : List ℕ) (e : Entry) (b : Bool) (o : Option Entry) → entry_of es q ≡ o → cond b (option_map change o) o ≡ Some e → length e.own ≡ 15
    at q e true None was is = absurd (none-some e is)
    at q e false None was is = absurd (none-some e is)
    at q e true (Some x) was is = ap (λ (y : Entry). length y.own) (sym (same_Some (change x) e is)) ∙ same x ∙ regular.long q x was
    at q e false (Some x) was is = ap (λ (y : Entry). length y.own) (sym (same_Some x e is)) ∙ regular.long q x was

pub length_shifted : (deltas : List Delta) (own : List ℕ) → length (shifted deltas own) ≡ length own
length_shifted [] own = refl
length_shifted (d ∷ deltas) own =
    let next = slice_set own (place_of d.resource) (slice_index own (place_of d.resource) - d.old + d.new) in
    length_shifted deltas next ∙ length-set own (place_of d.resource) (slice_index own (place_of d.resource) - d.old + d.new)

pub regular_shifted : (n : List ℕ) (deltas : List Delta) (es : Entries) → AreRegular es → AreRegular (with_shifted (n ∷ []) deltas es)
regular_shifted n deltas es regular = regular_with n (shift_in deltas) es (λ e. length_shifted deltas e.own) regular

pub regular_changed : (c : CounterChange) (es : Entries) → AreRegular es → AreRegular (changed c es)
regular_changed (Add name) es regular = regular_added name es regular
regular_changed (Move moved parent) es regular = regular_with moved (λ (e : Entry). record e { parent = parent }) es (λ e. refl) regular
regular_changed (Shift n deltas) es regular = regular_shifted n deltas es regular
regular_changed (Remove name) es regular = regular_removed name es regular

pub regular_all : (changes : List CounterChange) (es : Entries) → AreRegular es → AreRegular (changed_all changes es)
regular_all [] es regular = regular
regular_all (c ∷ changes) es regular = regular_all changes (changed c es) (regular_changed c es regular)
