-- Entries of places, and what becomes of them.
--     entry_at           the entry of a name is that of its place
--     same_keys, same_count, same_length      there are as many, with the same names
--     put_places, cut_places, changed_places      the entries in order, after a change of places
--     same_places        the same entries
--     adjusted_entries   sums that are adjusted leave them
use Rattle.std.proofs.Common.{◌≡◌, ℕ, Bool, true, false, cond, Option, Some, None, option_map, List, [], ◌∷◌, length, suc, refl, sym, ap, ◌∙◌}
use Rattle.std.specs.Map.{keys_of, lookup}
use Rattle.std.specs.Str.{bytes_eq}
use Rattle.hx_forest.specs.Named.{with_changed}
use Rattle.hx_forest.proofs.Named.{ascends-values, same_values, lookup-values, values-put, values-cut, values-changed}
use Rattle.hx_quota.specs.Counters.{Entry}
use Rattle.hx_quota.specs.PlaceRows.{Place}
use Rattle.hx_quota.specs.Counters.{entry_of, with_entry, without_entry}
use Rattle.hx_quota.specs.Inside.{Places, entries_in, ordered, place_at, IsAdjusted}

-- the entry of a place
abbrev pub entry_in : Option Place → Option Entry
entry_in o = option_map (λ p. p.entry) o

entry_among : (places : Places) (q : List ℕ) → lookup (bytes_eq q) (entries_in places) ≡ entry_in (place_at places q)
entry_among [] q = refl
entry_among (e ∷ places) q = elim (bytes_eq q e.0) as (λ b. cond b (Some e.1.entry) (lookup (bytes_eq q) (entries_in places)) ≡ entry_in (cond b (Some e.1) (place_at places q))) [
  | true ↦ refl
  | false ↦ entry_among places q
]

pub entry_at : (places : Places) (q : List ℕ) → entry_of (ordered places) q ≡ entry_in (place_at places q)
entry_at places q = lookup-values (entries_in places) q ∙ entry_among places q

pub same_keys : (places : Places) → keys_of (entries_in places) ≡ keys_of places
same_keys [] = refl
same_keys (e ∷ places) = ap (λ ks. e.0 ∷ ks) (same_keys places)

pub same_count : (places : Places) → length (entries_in places) ≡ length places
same_count [] = refl
same_count (e ∷ places) = ap (λ k. suc k) (same_count places)

-- as many, where the entries are the same
pub same_length : (new old : Places) → entries_in new ≡ entries_in old → length new ≡ length old
same_length new old same = sym (same_count new) ∙ ap length same ∙ same_count old

module _ (new old : Places) (n : List ℕ) where
  look : (w : Option Place) → ((q : List ℕ) → place_at new q ≡ cond (bytes_eq n q) w (place_at old q))
      → (q : List ℕ) → lookup (bytes_eq q) (entries_in new) ≡ cond (bytes_eq n q) (entry_in w) (lookup (bytes_eq q) (entries_in old))
  look w is q = entry_among new q ∙ ap entry_in (is q) ∙ by (bytes_eq n q)
    where
      by : (b : Bool) → entry_in (cond b w (place_at old q)) ≡ cond b (entry_in w) (lookup (bytes_eq q) (entries_in old))
      by true = refl
      by false = sym (entry_among old q)

  pub put_places : (place : Place) → ((q : List ℕ) → place_at new q ≡ cond (bytes_eq n q) (Some place) (place_at old q)) → ordered new ≡ with_entry n place.entry (ordered old)
  put_places place is = values-put (entries_in new) (entries_in old) n place.entry (look (Some place) is)

  pub cut_places : ((q : List ℕ) → place_at new q ≡ cond (bytes_eq n q) None (place_at old q)) → ordered new ≡ without_entry n (ordered old)
  cut_places is = values-cut (entries_in new) (entries_in old) n (look None is)

  pub changed_places : (change : Entry → Entry) (was place : Place) → place_at old n ≡ Some was → place.entry ≡ change was.entry
      → ((q : List ℕ) → place_at new q ≡ cond (bytes_eq n q) (Some place) (place_at old q)) → ordered new ≡ with_changed n change (ordered old)
  changed_places change was place there entry is = values-changed (entries_in new) (entries_in old) n change was.entry (entry_among old n ∙ ap entry_in there)
      (λ q. look (Some place) is q ∙ ap (λ (x : Entry). cond (bytes_eq n q) (Some x) (lookup (bytes_eq q) (entries_in old))) entry)

pub same_places : (new old : Places) → ((q : List ℕ) → entry_in (place_at new q) ≡ entry_in (place_at old q)) → ordered new ≡ ordered old
same_places new old same = same_values (ordered new) (ordered old) (ascends-values (entries_in new)) (ascends-values (entries_in old)) (λ q. entry_at new q ∙ same q ∙ sym (entry_at old q))

-- sums that are adjusted leave the entries
pub adjusted_entries : (take give : List ℕ) (test : List ℕ → Bool) (old new : Places) → ((q : List ℕ) → IsAdjusted take give (test q) (place_at old q) (place_at new q)) → ordered new ≡ ordered old
adjusted_entries take give test old new is = same_places new old (λ q. at (place_at old q) (place_at new q) (test q) (is q))
  where
    at : (o w : Option Place) (b : Bool) → IsAdjusted take give b o w → entry_in w ≡ entry_in o
    at None w b h = ap entry_in h
    at (Some p) w b h = ap entry_in h.1 ∙ ap Some h.2
