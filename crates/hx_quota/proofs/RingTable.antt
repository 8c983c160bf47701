-- Links that close rings, which lie at indices.
--     up_within                        such an index is there
--     ring_place                       these links are the parents of places that have them
--     ring_table                       names with such links are a table too
--     ring_pushed, no_rings, ring_found, ring_set      one more without a link, none, the link at an index, and another one there
--     ring_absent, rings_left, rings_out     where a name isn't there, and where one goes
use Rattle.std.specs.Prelude.{is_some, option_and_then, position, slice_get, swap_remove, IfSome}
use Rattle.std.proofs.Common.{◌≡◌, ℕ, zero, suc, ◌-◌, ◌<◌, Bool, true, false, cond, Option, Some, None, option_map, List, [], ◌∷◌, ◌++◌, map, length, refl, sym, ap, ◌∙◌, subst, true≢false}
use Rattle.std.specs.List.{IsDistinct, list_any}
use Rattle.std.specs.Map.{keys_of, lookup}
use Rattle.std.specs.Str.{bytes_eq}
use Rattle.std.proofs.lemmas.Cmp.{nat_list_eq_equiv}
use Rattle.std.proofs.lemmas.Map.Entries.{lookup_from_place}
use Rattle.std.proofs.lemmas.Option.{none-some, same_Some}
use Rattle.indexmap.specs.IndexMap.{set_value_at}
use Rattle.hx_quota.specs.PlaceRows.{Place, Link, Links, Names, Rows, Ups, first_row, behind, place_of_parts, joined, linked, place_at, ring_in, relinked, AreUps, IsTable}
use Rattle.hx_quota.proofs.Indexed.{place_changed}
use Rattle.hx_quota.proofs.Joined.{keys_joined, joined_link, place_absent}
use Rattle.hx_quota.proofs.Linked.{keys_linked, length_linked, places_left, ups_out}

abbrev Row : Type 0
Row = List ℕ × Place

abbrev link_of : Option Place → Link
link_of o = option_and_then (λ (p : Place). p.entry.parent) o

pub up_within : (names : Names) (ups : Ups) → AreUps names ups → (at : ℕ) → IfSome (option_and_then (λ (u : Option ℕ). u) (slice_get ups at)) (λ i. i < length names)
up_within names ups are at = by (slice_get ups at) refl
  where
    by : (o : Option (Option ℕ)) → slice_get ups at ≡ o → IfSome (option_and_then (λ (u : Option ℕ). u) o) (λ i. i < length names)
    by None is = tt
    by (Some u) is = are.1 at u is

-- ---- links as parents

pub ring_place : (links : Links) (owns sums : Rows) (q : List ℕ) → ring_in links q ≡ link_of (place_at (joined links owns sums) q)
ring_place [] owns sums q = refl
ring_place (e ∷ links) owns sums q = elim (bytes_eq q e.0) as (λ b. option_and_then (λ (link : Link). link) (cond b (Some e.1) (lookup (bytes_eq q) links)) ≡ link_of (cond b (Some (place_of_parts e.1 (first_row owns) (first_row sums))) (place_at (joined links (behind owns) (behind sums)) q))) [
  | true ↦ refl
  | false ↦ ring_place links (behind owns) (behind sums) q
]

pub ring_table : (names : Names) (ups rings : Ups) (owns sums : Rows) → IsTable (linked names names ups) owns sums → IsTable (linked names names rings) owns sums
ring_table names ups rings owns sums is = record {
  distinct = subst (λ (ks : Names). IsDistinct bytes_eq ks) (keys_linked names names ups ∙ sym (keys_linked names names rings)) is.distinct;
  own = is.own ∙ length_linked names names ups ∙ sym (length_linked names names rings);
  whole = is.whole ∙ length_linked names names ups ∙ sym (length_linked names names rings);
}

-- ---- changes

pub ring_pushed : (links : Links) (n q : List ℕ) → ring_in (links ++ (n, None) ∷ []) q ≡ ring_in links q
ring_pushed [] n q = either (bytes_eq q n)
  where
    either : (b : Bool) → option_and_then (λ (link : Link). link) (cond b (Some None) None) ≡ None
    either true = refl
    either false = refl
ring_pushed (e ∷ links) n q = elim (bytes_eq q e.0) as (λ b. option_and_then (λ (link : Link). link) (cond b (Some e.1) (lookup (bytes_eq q) (links ++ (n, None) ∷ []))) ≡ option_and_then (λ (link : Link). link) (cond b (Some e.1) (lookup (bytes_eq q) links))) [
  | true ↦ refl
  | false ↦ ring_pushed links n q
]

-- where no index is there, no link is
pub no_rings : (among names : Names) (ups : Ups) → list_any (λ (u : Option ℕ). is_some u) ups ≡ false → (q : List ℕ) → ring_in (linked among names ups) q ≡ None
no_rings among [] ups none q = refl
no_rings among (n ∷ names) [] none q = elim (bytes_eq q n) as (λ b. option_and_then (λ (link : Link). link) (cond b (Some None) (lookup (bytes_eq q) (linked among names []))) ≡ None) [
  | true ↦ refl
  | false ↦ no_rings among names [] none q
]
no_rings among (n ∷ names) (Some i ∷ ups) none q = absurd (true≢false none)
no_rings among (n ∷ names) (None ∷ ups) none q = elim (bytes_eq q n) as (λ b. option_and_then (λ (link : Link). link) (cond b (Some None) (lookup (bytes_eq q) (linked among names ups))) ≡ None) [
  | true ↦ refl
  | false ↦ no_rings among names ups none q
]

-- the link at the index of a name
pub ring_found : (links : Links) (at : ℕ) (n : List ℕ) → IsDistinct bytes_eq (keys_of links) → option_map (λ (e : List ℕ × Link). e.0) (slice_get links at) ≡ Some n
    → option_and_then (λ (e : List ℕ × Link). e.1) (slice_get links at) ≡ ring_in links n
ring_found links at n distinct named = by (slice_get links at) refl named
  where
    by : (o : Option (List ℕ × Link)) → slice_get links at ≡ o → option_map (λ (e : List ℕ × Link). e.0) o ≡ Some n → option_and_then (λ (e : List ℕ × Link). e.1) o ≡ ring_in links n
    by None is h = absurd (none-some n h)
    by (Some e) is h =
        sym (ap (λ (o : Option Link). option_and_then (λ (link : Link). link) o) (lookup_from_place nat_list_eq_equiv links at e.0 e.1 distinct is)) ∙ ap (ring_in links) (same_Some e.0 n h)

-- the place at the index of a name
row_named : (links : Links) (owns sums : Rows) (at : ℕ) (n : List ℕ) → option_map (λ (e : List ℕ × Link). e.0) (slice_get links at) ≡ Some n → (p : Place) × (slice_get (joined links owns sums) at ≡ Some (n, p))
row_named [] owns sums at n named = absurd (none-some n named)
row_named (e ∷ links) owns sums zero n named = (place_of_parts e.1 (first_row owns) (first_row sums), ap (λ (k : List ℕ). Some (k, place_of_parts e.1 (first_row owns) (first_row sums))) (same_Some e.0 n named))
row_named (e ∷ links) owns sums (suc at) n named = row_named links (behind owns) (behind sums) at n named

pub ring_set : (links : Links) (at : ℕ) (n : List ℕ) (link : Link) → IsDistinct bytes_eq (keys_of links) → option_map (λ (e : List ℕ × Link). e.0) (slice_get links at) ≡ Some n
    → (q : List ℕ) → ring_in (set_value_at links at link) q ≡ cond (bytes_eq n q) link (ring_in links q)
ring_set links at n link distinct named q =
    let places = joined links [] [] in
    let row = row_named links [] [] at n named in
    ring_place (set_value_at links at link) [] [] q ∙ ap (λ xs. link_of (place_at xs q)) (joined_link links [] [] at link)
    ∙ ap link_of (place_changed at (λ (p : Place). record p { entry = record (p.entry) { parent = link } }) places n row.0 (subst (λ (ks : Names). IsDistinct bytes_eq ks) (sym (keys_joined links [] [])) distinct) row.1 q)
    ∙ by row.0 (bytes_eq n q) ∙ ap (λ (l : Link). cond (bytes_eq n q) link l) (sym (ring_place links [] [] q))
  where
    by : (p : Place) (b : Bool) → link_of (cond b (Some (record p { entry = record (p.entry) { parent = link } })) (place_at (joined links [] []) q)) ≡ cond b link (link_of (place_at (joined links [] []) q))
    by p true = refl
    by p false = refl

-- ---- one that goes

turned : (b : Bool) (o : Option Place) → link_of (cond b None o) ≡ cond b None (link_of o)
turned true o = refl
turned false o = refl

module _ (names : Names) (rings : Ups) (owns sums : Rows) (is : IsTable (linked names names rings) owns sums) (n : List ℕ) where
  abbrev links : Links
  links = linked names names rings

  pub ring_absent : None ≡ position (bytes_eq n) (keys_of links) → (q : List ℕ) → ring_in links q ≡ cond (bytes_eq n q) None (ring_in links q)
  ring_absent index q =
      ring_place links owns sums q ∙ ap link_of (place_absent links owns sums is n index q) ∙ turned (bytes_eq n q) (place_at (joined links owns sums) q)
      ∙ ap (λ (l : Link). cond (bytes_eq n q) None l) (sym (ring_place links owns sums q))

  module _ (are : AreUps names rings) (at : ℕ) (within : at < length names) (index : Some at ≡ position (bytes_eq n) names) (ringless : (m : List ℕ) → bytes_eq n m ≡ false → ring_in links m ≡ Some n → ⊥) where
    childless : (m : List ℕ) (p : Place) → bytes_eq n m ≡ false → place_at (joined links owns sums) m ≡ Some p → p.entry.parent ≡ Some n → ⊥
    childless m p out found on = ringless m out (ring_place links owns sums m ∙ ap link_of found ∙ on)

    abbrev left : Ups
    left = map (relinked (length names - 1) at) (swap_remove rings at None)

    pub rings_left : (q : List ℕ) → ring_in (linked (swap_remove names at n) (swap_remove names at n) left) q ≡ cond (bytes_eq n q) None (ring_in links q)
    rings_left q =
        ring_place (linked (swap_remove names at n) (swap_remove names at n) left) (swap_remove owns at []) (swap_remove sums at []) q
        ∙ ap link_of (places_left names rings owns sums is are at n within index None childless [] [] q) ∙ turned (bytes_eq n q) (place_at (joined links owns sums) q)
        ∙ ap (λ (l : Link). cond (bytes_eq n q) None l) (sym (ring_place links owns sums q))

    pub rings_out : AreUps (swap_remove names at n) left
    rings_out = ups_out names rings owns sums is are at n within index None childless
